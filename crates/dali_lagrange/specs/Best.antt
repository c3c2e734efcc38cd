use Rattle.std.specs.Prelude.{ℕ, ◌+◌, ◌<◌, ◌≤◌, ℤ, ◌≤ℤ◌, ◌<ℤ◌, List, slice_index, slice_set}
use Rattle.dali_base.specs.Limits.{most_multiplier}
use Rattle.dali_problem.specs.declared.mark.Mark.{Mark}
use Rattle.dali_problem.specs.Clearing.{Clearing}
use Rattle.dali_lagrange.specs.Bound.{sum_of}

-- the Sum with x as the multiplier of line l
unfoldable pub sum_with : Clearing → List Mark → List ℕ → ℕ → ℕ → ℤ
sum_with p f point l x = sum_of p f (slice_index (slice_set point l x))

-- no multiplier of line l gives a smaller Sum, and none below gives one as small
pub record IsBestAt (p : Clearing) (f : List Mark) (point : List ℕ) (l best : ℕ) : Type 0 where
  pub within : best ≤ most_multiplier
  pub least : (x : ℕ) → x ≤ most_multiplier → sum_with p f point l best ≤ℤ sum_with p f point l x
  pub first : (x : ℕ) → x < best → sum_with p f point l best <ℤ sum_with p f point l x

-- in the multiplier of line l the Sum falls up to low
pub record FallsTo (p : Clearing) (f : List Mark) (point : List ℕ) (l low : ℕ) : Type 0 where
  pub falls : (x : ℕ) → x < low → sum_with p f point l (x + 1) <ℤ sum_with p f point l x

-- and doesn't fall from high on
pub record RisesFrom (p : Clearing) (f : List Mark) (point : List ℕ) (l high : ℕ) : Type 0 where
  pub rises : (x : ℕ) → high ≤ x → x < most_multiplier → sum_with p f point l x ≤ℤ sum_with p f point l (x + 1)

-- so the best multiplier is one from low to high
pub record IsBracket (p : Clearing) (f : List Mark) (point : List ℕ) (l low high : ℕ) : Type 0 where
  pub order : low ≤ high
  pub within : high ≤ most_multiplier
  pub before : FallsTo p f point l low
  pub behind : RisesFrom p f point l high
