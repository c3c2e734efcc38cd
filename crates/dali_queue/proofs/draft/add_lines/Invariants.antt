use Rattle.std.proofs.Common.{◌≡◌, [], map, take}
use Rattle.dali_queue.specs.CycleProblem.{line_row}
use Rattle.dali_queue.proofs.draft.add_lines.Given as goal

abbrev pub invariant-loop-pair : goal.invariant-loop-pair
invariant-loop-pair l = record {
  so_far : l.problem ≡ record { lines = map (line_row l.book.book) (take l.pair-index l.pairs); items = [] };
}
