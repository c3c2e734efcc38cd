use Rattle.std.proofs.Common.{◌≡◌, length, take}
use Rattle.dali_problem.specs.Kept.{AllUndecided}
use Rattle.dali_lagrange.proofs.start.members_of.Given as goal

abbrev pub invariant-loop-place : goal.invariant-loop-place
invariant-loop-place l = record {
  size : length l.marks.items ≡ length l.problem.items;
  undecided : AllUndecided l.marks.items (take l.place-index l.members);
}
