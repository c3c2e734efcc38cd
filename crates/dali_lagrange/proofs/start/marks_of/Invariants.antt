use Rattle.std.proofs.Common.{◌≡◌, take}
use Rattle.dali_lagrange.proofs.start.marks_of.Given as goal

abbrev pub invariant-loop-place : goal.invariant-loop-place
invariant-loop-place l = l.marks.items ≡ take l.place l.partial.marks
