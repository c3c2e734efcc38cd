use Rattle.std.specs.Prelude.{ℕ, ◌<◌, ◌≤◌, ◌^◌, ◌==◌, ℤ, pos, ◌+ℤ◌, ◌-ℤ◌, ◌*ℤ◌, List, length, slice_index_or}
use Rattle.std.specs.List.{All}
use Rattle.dali_base.specs.Limits.{most_items}
use Rattle.dali_problem.specs.declared.columns.Touch.{Touch}
use Rattle.dali_problem.specs.declared.mark.Mark.{Mark}
use Rattle.dali_problem.specs.Limits.{Within}
use Rattle.dali_problem.specs.Partial.{mark}
use Rattle.dali_problem.specs.Sums.{pick}
use Rattle.dali_lagrange.specs.Bound.{count_of}

-- touches of places below n, no more than items
pub record AreTouches (n : ℕ) (touches : List Touch) : Type 0 where
  pub size : length touches ≤ most_items
  pub in_range : All (λ t. t.place < n) touches
  pub bounded : All (λ t. Within (2 ^ 58) t.amount) touches

-- the amount of a touch of place j
abbrev pub at_place : ℕ → Touch → ℤ
at_place j t = pick (t.place == j) t.amount

-- a reduced value z after a multiplier rises by so much, on a line that its place changes by this amount
abbrev pub shifted : ℤ → ℤ → ℤ → ℤ
shifted z by amount = z +ℤ by *ℤ amount

-- the reduced value of place j
abbrev pub reduced_in : List ℤ → ℕ → ℤ
reduced_in values j = slice_index_or values j (pos 0)

-- how much more the place of a touch counts where its line's multiplier has risen by `to` than where by `from`
abbrev pub touch_rise : List Mark → List ℤ → ℤ → ℤ → Touch → ℤ
touch_rise f values from to t =
    count_of (mark f t.place) (shifted (reduced_in values t.place) to t.amount)
    -ℤ count_of (mark f t.place) (shifted (reduced_in values t.place) from t.amount)
