use Rattle.std.proofs.Common.{◌≡◌, take, sum_by}
use Rattle.dali_queue.specs.Instruction.{weight}
use Rattle.dali_queue.specs.NetOf.{items_at}
use Rattle.dali_queue.proofs.queue.Queue.value.Given as goal

abbrev pub invariant-loop-place : goal.invariant-loop-place
invariant-loop-place l = record {
  so_far : l.value ≡ sum_by weight (items_at l.self.queue.waiting (take l.place-index l.listed));
}
