use Rattle.std.proofs.Common.{◌≡◌, [], map, take}
use Rattle.dali_problem.specs.Clearing.{line_at}
use Rattle.dali_restrict.proofs.restriction.add_lines.Given as goal

abbrev pub invariant-loop-line : goal.invariant-loop-line
invariant-loop-line l = record {
  so_far : l.inner ≡ record { lines = map (line_at l.problem) (take l.line-index l.lines); items = [] };
}
