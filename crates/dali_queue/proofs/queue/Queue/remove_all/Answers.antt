use Rattle.dali_queue.specs.Kept.{queue_of}
use Rattle.dali_queue.proofs.QueueLemmas.{queue_removed}
use Rattle.dali_queue.proofs.queue.Queue.remove_all.Goals as goal

pub invariant_of-self : goal.invariant_of-self
invariant_of-self c = rw c.remove.ensures.waiting (queue_removed (queue_of c.self.inside) c.as_slice.result.now c.self.invariant)
