use Rattle.std.proofs.Common.{◌⊎◌, length, take}
use Rattle.dali_problem.specs.Kept.{IsOf}
use Rattle.dali_reduce.specs.Run.{GoesOn, Waits, IsUnmoved}
use Rattle.dali_reduce.proofs.line.walk.Given as goal

abbrev pub invariant-loop-touch : goal.invariant-loop-touch
invariant-loop-touch l = record {
  of : IsOf l.problem l.partial;
  goes : GoesOn l.problem l.initial.partial.marks l.partial.marks l.initial.fixes l.fixes;
  stands : Waits l.problem l.fixes (length l.initial.fixes) l.line
      ⊎ IsUnmoved l.problem l.initial.partial.marks l.partial.marks l.initial.fixes l.fixes l.line (take l.touch-index l.touches);
}
