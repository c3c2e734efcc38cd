use Rattle.std.specs.Prelude.{◌≢◌, ℕ, ◌<◌, List, [], ◌∷◌, ◌++◌, length}
use Rattle.std.specs.List.{Contains}
use Rattle.dali_problem.specs.Clearing.{Clearing}
use Rattle.dali_problem.specs.Feasible.{IsFeasible}
use Rattle.dali_problem.specs.Rest.{IsRest}
use Rattle.dali_rest.specs.Sets.{outside}

-- s with some one place outside it is feasible
pub record CanAddOne (p : Clearing) (s : List ℕ) : Type 0 where
  pub place : ℕ
  pub in_range : place < length p.items
  pub outside : ¬ (Contains s place)
  pub feasible : IsFeasible p (place ∷ s)

-- the rest of the members outside s isn't empty, and s with all of it is feasible
pub record CanAddRest (p : Clearing) (s members : List ℕ) : Type 0 where
  pub rest : List ℕ
  pub is_rest : IsRest p s (outside members s) rest
  pub not_empty : rest ≢ []
  pub feasible : IsFeasible p (rest ++ s)
