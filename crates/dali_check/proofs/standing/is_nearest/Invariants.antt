use Rattle.std.proofs.Common.{◌≡◌, ℕ, true, not, ◌||◌, ltb, leb, List, if◌then◌else◌}
use Rattle.dali_problem.specs.Partial.{mark, is_undecided}
use Rattle.dali_problem.specs.Rules.{all_below}
use Rattle.dali_check.specs.Lean.{nearness}
use Rattle.dali_check.specs.Room.{IsSumFor}
use Rattle.dali_check.proofs.standing.is_nearest.Given as goal

abbrev pub invariant-loop-other : goal.invariant-loop-other
invariant-loop-other l = record {
  behind : (lam : List (ℕ × ℕ)) → IsSumFor l.problem lam l.partial.marks l.kept →
      all_below (λ j. not (is_undecided (mark l.partial.marks j))
      || (if ltb j l.place then ltb (nearness l.problem lam l.place) (nearness l.problem lam j)
      else leb (nearness l.problem lam l.place) (nearness l.problem lam j))) l.other ≡ true;
}
