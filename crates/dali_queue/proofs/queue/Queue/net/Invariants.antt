use Rattle.std.proofs.Common.{◌≡◌, take}
use Rattle.dali_account.specs.Units.{PairKey}
use Rattle.dali_queue.specs.Changed.{change_of}
use Rattle.dali_queue.specs.NetOf.{effects_of}
use Rattle.dali_queue.proofs.queue.Queue.net.Given as goal

abbrev pub invariant-loop-place : goal.invariant-loop-place
invariant-loop-place l = record {
  so_far : (pair : PairKey) → change_of l.changes.deltas pair ≡ effects_of l.self.queue.waiting (take l.place-index l.place-items) pair;
}
