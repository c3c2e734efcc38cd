use Rattle.std.proofs.Common.{◌≡◌, ℕ, take}
use Rattle.dali_problem.specs.declared.mark.Mark.TheVariants.{Left}
use Rattle.dali_problem.specs.Partial.{mark}
use Rattle.dali_problem.specs.Kept.{IsOf}
use Rattle.dali_check.proofs.Entering.{given}
use Rattle.dali_check.proofs.members.leave.Given as goal

abbrev pub invariant-loop-place : goal.invariant-loop-place
invariant-loop-place l = record {
  of : IsOf l.problem l.partial;
  marks : (j : ℕ) → mark l.partial.marks j ≡ given (take l.place-index l.members) Left l.initial.partial.marks j;
}
