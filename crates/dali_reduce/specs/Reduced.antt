use Rattle.std.specs.Prelude.{◌≡◌, ◌≢◌, ℕ, ◌<◌, false, true, ◌⊎◌, List, length, count_by}
use Rattle.dali_problem.specs.declared.columns.Touch.{Touch}
use Rattle.dali_problem.specs.declared.mark.Mark.{Mark}
use Rattle.dali_problem.specs.declared.mark.Mark.TheVariants.{Stranger, Undecided}
use Rattle.dali_problem.specs.Clearing.{Clearing}
use Rattle.dali_problem.specs.Partial.{mark, is_undecided}
use Rattle.dali_problem.specs.Rules.{is_short}
use Rattle.dali_problem.specs.Touches.{touches, column_at}
use Rattle.dali_tree.specs.declared.fix.Fix.{Fix}
use Rattle.dali_tree.specs.Fits.{fix_fits}
use Rattle.dali_fixes.specs.Fixed.{holds}

-- no fix rule holds, of any place with any line
pub record IsReduced (p : Clearing) (f : List Mark) : Type 0 where
  pub none : (fix : Fix) → fix_fits (length p.items) (length p.lines) fix ≡ true → holds p f fix ≡ false

-- a line is short
pub record HasShort (p : Clearing) (f : List Mark) : Type 0 where
  pub line : ℕ
  pub within : line < length p.lines
  pub short : is_short p f line ≡ true

-- nothing is left to fix, or a line is short
abbrev pub IsDone : Clearing → List Mark → Type 0
IsDone p f = IsReduced p f ⊎ HasShort p f

-- how many members are undecided
abbrev pub undecided_count : List Mark → ℕ
undecided_count f = count_by is_undecided f

-- members are what they were, and what was decided stays so
pub record DecidesMore (f g : List Mark) : Type 0 where
  pub size : length g ≡ length f
  pub kept : (j : ℕ) → mark f j ≢ Undecided → mark g j ≡ mark f j
  pub members : (j : ℕ) → mark f j ≡ Undecided → mark g j ≢ Stranger

-- the columns were made for this problem
pub record AreColumns (p : Clearing) (columns : List (List Touch)) : Type 0 where
  pub lines : length columns ≡ length p.lines
  pub touches : (l : ℕ) → l < length columns → column_at columns l ≡ touches p l
