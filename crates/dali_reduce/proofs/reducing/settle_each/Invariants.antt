use Rattle.std.proofs.Common.{false, leb}
use Rattle.dali_problem.specs.Kept.{IsOf}
use Rattle.dali_reduce.specs.Run.{GoesOn, IsSettledBut}
use Rattle.dali_reduce.proofs.reducing.settle_each.Given as goal

abbrev pub invariant-loop-line : goal.invariant-loop-line
invariant-loop-line l = record {
  of : IsOf l.problem l.partial;
  goes : GoesOn l.problem l.initial.partial.marks l.partial.marks l.initial.fixes l.fixes;
  settled : IsSettledBut l.problem l.partial.marks l.fixes 0 (λ k. leb l.line k) (λ _. false);
}
