use Rattle.std.proofs.Common.{true, leb}
use Rattle.dali_problem.specs.Kept.{IsOf}
use Rattle.dali_reduce.specs.Run.{GoesOn, IsSettledBut}
use Rattle.dali_reduce.proofs.reducing.take_safe.Given as goal

abbrev pub invariant-loop-place : goal.invariant-loop-place
invariant-loop-place l = record {
  of : IsOf l.problem l.partial;
  goes : GoesOn l.problem l.initial.partial.marks l.partial.marks l.initial.fixes l.fixes;
  settled : IsSettledBut l.problem l.partial.marks l.fixes 0 (λ _. true) (λ j. leb l.place j);
}
