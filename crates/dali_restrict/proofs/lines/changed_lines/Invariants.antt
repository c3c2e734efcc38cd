use Rattle.std.proofs.Common.{◌≡◌, take}
use Rattle.std.specs.List.{flat_map}
use Rattle.dali_restrict.proofs.Restricting.{lines_of}
use Rattle.dali_restrict.proofs.lines.changed_lines.Given as goal

abbrev pub invariant-loop-place : goal.invariant-loop-place
invariant-loop-place l = record {
  so_far : l.lines.items ≡ flat_map (lines_of l.problem) (take l.place-index l.members);
}
