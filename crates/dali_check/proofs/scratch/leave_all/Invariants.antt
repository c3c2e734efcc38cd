use Rattle.std.proofs.Common.{◌≡◌, ℕ, ◌<◌, ◌≤◌}
use Rattle.dali_problem.specs.declared.mark.Mark.TheVariants.{Left}
use Rattle.dali_problem.specs.Partial.{mark}
use Rattle.dali_problem.specs.Kept.{IsOf}
use Rattle.dali_check.proofs.scratch.leave_all.Given as goal

abbrev pub invariant-loop-place : goal.invariant-loop-place
invariant-loop-place l = record {
  of : IsOf l.problem l.partial;
  left : (j : ℕ) → j < l.place → mark l.partial.marks j ≡ Left;
  rest : (j : ℕ) → l.place ≤ j → mark l.partial.marks j ≡ mark l.initial.partial.marks j;
}
