use Rattle.std.proofs.Common.{◌≡◌, ℕ, ◌<◌, ◌≤◌}
use Rattle.dali_problem.specs.declared.mark.Mark.TheVariants.{Undecided}
use Rattle.dali_problem.specs.Partial.{mark}
use Rattle.dali_problem.specs.Kept.{IsOf}
use Rattle.dali_search.proofs.places.reset.Given as goal

abbrev pub invariant-loop-place : goal.invariant-loop-place
invariant-loop-place l = record {
  of : IsOf l.problem l.partial;
  done : (j : ℕ) → j < l.place → mark l.partial.marks j ≡ Undecided;
  rest : (j : ℕ) → l.place ≤ j → mark l.partial.marks j ≡ mark l.initial.partial.marks j;
}
