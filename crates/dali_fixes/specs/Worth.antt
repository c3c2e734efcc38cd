use Rattle.std.specs.Prelude.{◌≡◌, ◌⊎◌, ℕ, ◌+◌, ◌<◌, ◌≤◌, List, slice_set}
use Rattle.std.specs.List.{Contains}
use Rattle.dali_problem.specs.declared.mark.Mark.{Mark}
use Rattle.dali_problem.specs.declared.mark.Mark.TheVariants.{Chosen}
use Rattle.dali_problem.specs.Clearing.{Clearing, worth}
use Rattle.dali_problem.specs.Feasible.{ArePlaces, IsFeasible, value_of}
use Rattle.dali_problem.specs.Partial.{Agrees}

-- some feasible set that agrees is worth at least v
pub record HasWorth (p : Clearing) (f : List Mark) (v : ℕ) : Type 0 where
  pub set : List ℕ
  pub places : ArePlaces p set
  pub feasible : IsFeasible p set
  pub agrees : Agrees f set
  pub least : v ≤ value_of p set

-- whatever a feasible set is worth that agrees with f, some feasible set is that agrees with g
pub record KeepsWorth (p : Clearing) (f g : List Mark) : Type 0 where
  pub kept : (t : List ℕ) → ArePlaces p t → IsFeasible p t → Agrees f t → HasWorth p g (value_of p t)

-- beside the set t, which leaves place j, stands one that has j too and nothing else: it is feasible, agrees with j chosen, and
-- is worth more by what j is worth, which isn't 0
pub record TakesMore (p : Clearing) (f : List Mark) (j : ℕ) (t : List ℕ) : Type 0 where
  pub set : List ℕ
  pub places : ArePlaces p set
  pub feasible : IsFeasible p set
  pub agrees : Agrees (slice_set f j Chosen) set
  pub old : (i : ℕ) → Contains t i → Contains set i
  pub has : Contains set j
  pub only : (i : ℕ) → Contains set i → Contains t i ⊎ (i ≡ j)
  pub gains : value_of p set ≡ value_of p t + worth p j
  pub more : value_of p t < value_of p set
