use Rattle.std.proofs.Common.{not}
use Rattle.dali_base.specs.Readers.{same_bytes}
use Rattle.dali_queue.proofs.QueueLemmas.{queue_filtered}
use Rattle.dali_queue.specs.Kept.{queue_of}
use Rattle.dali_queue.proofs.queue.Queue.cancel.Goals as goal

pub invariant_of-self : goal.invariant_of-self
invariant_of-self c = rw c.take.ensures.waiting (queue_filtered (queue_of c.self.inside) (λ w. not (same_bytes c.args.id w.item.id)) c.self.invariant)

pub invariant_of-self-2 : goal.invariant_of-self-2
invariant_of-self-2 c = rw c.take.ensures.waiting (queue_filtered (queue_of c.self.inside) (λ w. not (same_bytes c.args.id w.item.id)) c.self.invariant)
