use Rattle.std.specs.Prelude.{◌≡◌, ℕ, ◌<◌, ◌≤◌, nat_le, List, Option, Some, None, if◌then◌else◌}
use Rattle.dali_problem.specs.declared.mark.Mark.{Mark}
use Rattle.dali_problem.specs.declared.mark.Mark.TheVariants.{Undecided}
use Rattle.dali_problem.specs.Clearing.{Clearing}
use Rattle.dali_problem.specs.Partial.{mark}
use Rattle.dali_check.specs.Lean.{nearness}
use Rattle.dali_search.specs.declared.nearest.Near.{Near}

-- the nearer one of a place and what was found before it, which stays where it is as near
abbrev pub nearer_of : Option Near → ℕ → ℕ → Option Near
nearer_of None place size = Some (record { place = place; size = size })
nearer_of (Some near) place size = if nat_le near.size size then Some near else Some (record { place = place; size = size })

-- what was found is the first of the nearest undecided places below n
pub record IsNearestBelow (p : Clearing) (lam : List (ℕ × ℕ)) (f : List Mark) (n : ℕ) (near : Near) : Type 0 where
  pub below : near.place < n
  pub undecided : mark f near.place ≡ Undecided
  pub size : near.size ≡ nearness p lam near.place
  pub before : (j : ℕ) → j < near.place → mark f j ≡ Undecided → near.size < nearness p lam j
  pub least : (j : ℕ) → j < n → mark f j ≡ Undecided → near.size ≤ nearness p lam j

abbrev pub FoundBelow : Clearing → List (ℕ × ℕ) → List Mark → ℕ → Option Near → Type 0
FoundBelow p lam f n None = (j : ℕ) → j < n → ¬ (mark f j ≡ Undecided)
FoundBelow p lam f n (Some near) = IsNearestBelow p lam f n near
