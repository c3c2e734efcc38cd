use Rattle.std.specs.Prelude.{◌≡◌, ◌≢◌, ℕ, ◌<◌, pos, false, List, length, slice_set}
use Rattle.std.specs.List.{Contains}
use Rattle.dali_problem.specs.declared.mark.Mark.{Mark}
use Rattle.dali_problem.specs.declared.mark.Mark.TheVariants.{Undecided, Chosen, Left}
use Rattle.dali_problem.specs.Clearing.{Clearing, worth, effect}
use Rattle.dali_problem.specs.Partial.{mark}
use Rattle.dali_problem.specs.Rules.{is_short}
use Rattle.dali_rest.specs.Room.{IsCovered}

-- each place is decided
pub record AreDecided (p : Clearing) (f : List Mark) : Type 0 where
  pub decided : (j : ℕ) → j < length p.items → mark f j ≢ Undecided

-- no line is short that place i doesn't change
pub record IsCoveredBut (p : Clearing) (f : List Mark) (i : ℕ) : Type 0 where
  pub covered : (l : ℕ) → l < length p.lines → effect p i l ≡ pos 0 → is_short p f l ≡ false

-- a left member of greater value than place i, with which no line is short
pub record HasBetter (p : Clearing) (f : List Mark) (members : List ℕ) (i : ℕ) : Type 0 where
  pub place : ℕ
  pub member : Contains members place
  pub left : mark f place ≡ Left
  pub greater : worth p i < worth p place
  pub covered : IsCovered p (slice_set f place Chosen)
