use Rattle.std.proofs.Common.{◌==◌, take}
use Rattle.std.specs.List.{list_any}
use Rattle.dali_problem.specs.Kept.{IsOf}
use Rattle.dali_reduce.specs.Run.{GoesOn, Clears}
use Rattle.dali_reduce.proofs.line.settle_lines.Given as goal

abbrev pub invariant-loop-effect : goal.invariant-loop-effect
invariant-loop-effect l = record {
  of : IsOf l.problem l.partial;
  goes : GoesOn l.problem l.initial.partial.marks l.partial.marks l.initial.fixes l.fixes;
  clears : Clears l.problem l.initial.partial.marks l.partial.marks l.initial.fixes l.fixes (λ k. list_any (λ e. e.line == k) (take l.effect-index l.effects));
}
