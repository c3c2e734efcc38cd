use Rattle.std.specs.Prelude.{◌≡◌, ℕ, ◌<◌, ℤ, pos, List, length, slice_index, slice_index_or}
use Rattle.dali_problem.specs.declared.columns.Touch.{Touch}
use Rattle.dali_problem.specs.declared.mark.Mark.{Mark}
use Rattle.dali_problem.specs.Clearing.{Clearing}
use Rattle.dali_problem.specs.Touches.{touches, column_at}
use Rattle.dali_lagrange.specs.Bound.{reduced, sum_of}

-- marks and multipliers, with each place's reduced value, the Sum and the columns of the problem kept beside them
pub record KeptSum : Type 0 where
  pub marks : List Mark
  pub multipliers : List ℕ
  pub reduced : List ℤ
  pub total : ℤ
  pub columns : List (List Touch)

-- what is kept is what it is from scratch, for the problem p
pub record IsSumOf (p : Clearing) (k : KeptSum) : Type 0 where
  pub marks : length k.marks ≡ length p.items
  pub multipliers : length k.multipliers ≡ length p.lines
  pub places : length k.reduced ≡ length p.items
  pub reduced : (j : ℕ) → j < length p.items → slice_index_or k.reduced j (pos 0) ≡ reduced p (slice_index k.multipliers) j
  pub total : k.total ≡ sum_of p k.marks (slice_index k.multipliers)
  pub lines : length k.columns ≡ length p.lines
  pub columns : (l : ℕ) → l < length p.lines → column_at k.columns l ≡ touches p l
