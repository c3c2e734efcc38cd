use Rattle.std.specs.Prelude.{ℕ, ◌<◌, List, ◌∷◌}
use Rattle.std.specs.List.{Contains}
use Rattle.dali_problem.specs.Clearing.{Clearing, worth}
use Rattle.dali_problem.specs.Feasible.{IsFeasible}
use Rattle.dali_rest.specs.Sets.{without}

-- a member in s and a member outside s of greater value, such that s without the one and with the other is feasible
pub record CanSwap (p : Clearing) (s members : List ℕ) : Type 0 where
  pub given : ℕ
  pub taken : ℕ
  pub given_member : Contains members given
  pub given_in : Contains s given
  pub taken_member : Contains members taken
  pub taken_out : ¬ (Contains s taken)
  pub greater : worth p given < worth p taken
  pub feasible : IsFeasible p (taken ∷ without given s)
