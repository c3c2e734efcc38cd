use Rattle.dali_queue.proofs.QueueLemmas.{queue_ranked}
use Rattle.dali_queue.specs.Kept.{queue_of}
use Rattle.dali_queue.proofs.queue.Queue.set_rank.Goals as goal

pub invariant_of-self : goal.invariant_of-self
invariant_of-self c = rw c.set_rank.ensures.waiting (queue_ranked c.args.id c.args.rank (queue_of c.self.inside) c.self.invariant c.requires.from_one c.requires.to_limit)
