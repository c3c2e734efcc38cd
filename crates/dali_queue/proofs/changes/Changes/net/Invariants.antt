use Rattle.std.proofs.Common.{◌≡◌, ◌++◌}
use Rattle.dali_queue.specs.Changed.{moves_of}
use Rattle.dali_queue.proofs.changes.Changes.net.Given as goal

abbrev pub invariant-loop-pair : goal.invariant-loop-pair
invariant-loop-pair l = record {
  whole : l.net ++ moves_of l.pair-iterator ≡ moves_of l.self.deltas.entries;
}
