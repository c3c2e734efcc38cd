use Rattle.std.specs.Prelude.{◌≡◌, ◌≢◌, ℕ, zero, suc, ◌<◌, false, List, [], ◌∷◌, ◌++◌, length, if◌then◌else◌}
use Rattle.std.specs.List.{Contains}
use Rattle.dali_problem.specs.declared.mark.Mark.{Mark}
use Rattle.dali_problem.specs.declared.mark.Mark.TheVariants.{Stranger, Chosen, Left}
use Rattle.dali_problem.specs.Clearing.{Clearing}
use Rattle.dali_problem.specs.Kept.{Kept, IsOf}
use Rattle.dali_problem.specs.Partial.{mark, is_undecided}
use Rattle.dali_problem.specs.Rules.{is_short}

-- the room was made for p: its sums are those from scratch, and each place is a member
pub record IsRoomOf (p : Clearing) (k : Kept) : Type 0 where
  pub of : IsOf p k
  pub members : (j : ℕ) → j < length p.items → mark k.marks j ≢ Stranger

-- the marks stand for s: its places below n are chosen, and the others are left
pub record AreMarksOf (n : ℕ) (s : List ℕ) (f : List Mark) : Type 0 where
  pub chosen : (j : ℕ) → Contains s j → mark f j ≡ Chosen
  pub left : (j : ℕ) → j < n → ¬ (Contains s j) → mark f j ≡ Left

-- no line is short
pub record IsCovered (p : Clearing) (f : List Mark) : Type 0 where
  pub covered : (l : ℕ) → l < length p.lines → is_short p f l ≡ false

-- the undecided places below n, rising
abbrev pub undecided_below : List Mark → ℕ → List ℕ
undecided_below f zero = []
undecided_below f (suc n) = undecided_below f n ++ (if is_undecided (mark f n) then n ∷ [] else [])
