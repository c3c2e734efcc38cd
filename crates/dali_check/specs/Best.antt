use Rattle.std.specs.Prelude.{ℕ, ◌≤◌, List}
use Rattle.dali_problem.specs.Clearing.{Clearing}
use Rattle.dali_problem.specs.Feasible.{ArePlaces, IsFeasible, value_of}
use Rattle.dali_rest.specs.Addable.{CanAddOne, CanAddRest}
use Rattle.dali_rest.specs.Swappable.{CanSwap}

-- a feasible set, and no feasible set is worth more
pub record Best (p : Clearing) (s : List ℕ) : Type 0 where
  pub places : ArePlaces p s
  pub feasible : IsFeasible p s
  pub most : (t : List ℕ) → ArePlaces p t → IsFeasible p t → value_of p t ≤ value_of p s

-- nothing can be added to the set, alone or as the rest of whatever members, and no place of it exchanged for a better one
pub record IsGrown (p : Clearing) (s : List ℕ) : Type 0 where
  pub none_more : ¬ (CanAddOne p s)
  pub no_rest : (members : List ℕ) → ¬ (CanAddRest p s members)
  pub no_better : (members : List ℕ) → ¬ (CanSwap p s members)
