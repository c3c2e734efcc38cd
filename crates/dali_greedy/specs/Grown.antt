use Rattle.std.specs.Prelude.{◌≡◌, ℕ, ◌<◌, pos, ◌<ℤ◌, List, ◌∷◌, length}
use Rattle.std.specs.List.{Contains}
use Rattle.dali_problem.specs.declared.mark.Mark.{Mark}
use Rattle.dali_problem.specs.declared.mark.Mark.TheVariants.{Undecided}
use Rattle.dali_problem.specs.Clearing.{Clearing}
use Rattle.dali_problem.specs.Feasible.{ArePlaces, IsFeasible}
use Rattle.dali_problem.specs.Partial.{mark, Agrees, held}
use Rattle.dali_rest.specs.Addable.{CanAddRest}
use Rattle.dali_rest.specs.Room.{undecided_below}
use Rattle.dali_rest.specs.Swappable.{CanSwap}

-- an undecided place outside s, with which s stays feasible
pub record CanTake (p : Clearing) (f : List Mark) (s : List ℕ) : Type 0 where
  pub place : ℕ
  pub undecided : mark f place ≡ Undecided
  pub outside : ¬ (Contains s place)
  pub feasible : IsFeasible p (place ∷ s)

-- s is feasible and agrees with what f decides. No undecided place outside s can be added alone, nor, where it isn't
-- empty, the whole rest of those places. No undecided place in s can be exchanged for one outside s of greater value
pub record IsGrown (p : Clearing) (f : List Mark) (s : List ℕ) : Type 0 where
  pub places : ArePlaces p s
  pub feasible : IsFeasible p s
  pub agrees : Agrees f s
  pub no_place : ¬ (CanTake p f s)
  pub no_rest : ¬ (CanAddRest p s (undecided_below f (length p.items)))
  pub no_swap : ¬ (CanSwap p s (undecided_below f (length p.items)))

-- the chosen places alone leave a line negative
pub record IsOverdrawn (p : Clearing) (f : List Mark) : Type 0 where
  pub line : ℕ
  pub within : line < length p.lines
  pub negative : held p f line <ℤ pos 0
