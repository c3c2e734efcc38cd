use Rattle.std.proofs.Common.{take}
use Rattle.dali_problem.specs.Kept.{IsOf, AllUndecided}
use Rattle.dali_problem.proofs.turn.open.Given as goal

abbrev pub invariant-loop-place : goal.invariant-loop-place
invariant-loop-place l = record {
  undecided : AllUndecided l.marks (take l.place-index l.members);
  of : IsOf l.problem (record { marks = l.marks; sums = l.sums });
}
