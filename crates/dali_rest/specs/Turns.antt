use Rattle.std.specs.Prelude.{◌≡◌, ◌≢◌, ℕ, zero, suc, ◌+◌, ◌<◌, ℤ, pos, ◌+ℤ◌, ◌≤ℤ◌, ◌<ℤ◌, ◌⊎◌, List, length, if◌then◌else◌}
use Rattle.std.specs.List.{Contains}
use Rattle.dali_problem.specs.declared.mark.Mark.{Mark}
use Rattle.dali_problem.specs.declared.mark.Mark.TheVariants.{Undecided, Chosen, Left}
use Rattle.dali_problem.specs.Clearing.{Clearing, effect}
use Rattle.dali_problem.specs.Feasible.{ArePlaces}
use Rattle.dali_problem.specs.Partial.{mark, is_undecided, held}
use Rattle.dali_problem.specs.Rest.{credits_of}
use Rattle.dali_problem.specs.Rules.{credits}

-- each line that place j debits pays it, with all that undecided places give
pub record IsPaid (p : Clearing) (f : List Mark) (j : ℕ) : Type 0 where
  pub paid : (l : ℕ) → l < length p.lines → effect p j l <ℤ pos 0 → pos 0 ≤ℤ (held p f l +ℤ effect p j l +ℤ credits p f l)

-- each of t is undecided
pub record AreUndecided (f : List Mark) (t : List ℕ) : Type 0 where
  pub undecided : (j : ℕ) → Contains t j → mark f j ≡ Undecided

-- with each line at h, each of t can be paid with all credits of t
pub record ArePaidFrom (p : Clearing) (h : ℕ → ℤ) (t : List ℕ) : Type 0 where
  pub paid : (j l : ℕ) → Contains t j → l < length p.lines → effect p j l <ℤ pos 0 →
      pos 0 ≤ℤ (h l +ℤ effect p j l +ℤ credits_of p t l)

-- g is f with undecided places left that no list within them that can be paid has
pub record IsTurn (p : Clearing) (f g : List Mark) : Type 0 where
  pub size : length g ≡ length f
  pub fewer : (j : ℕ) → (mark g j ≡ mark f j) ⊎ ((mark f j ≡ Undecided) × (mark g j ≡ Left))
  pub keeps : (t : List ℕ) → ArePlaces p t → AreUndecided f t → ArePaidFrom p (held p f) t → AreUndecided g t

-- how many places below n are undecided
abbrev pub undecided_count : List Mark → ℕ → ℕ
undecided_count f zero = 0
undecided_count f (suc n) = undecided_count f n + (if is_undecided (mark f n) then 1 else 0)

-- g is f with the left members undecided
pub record IsOpened (f g : List Mark) (members : List ℕ) : Type 0 where
  pub opened : (j : ℕ) → Contains members j → mark f j ≡ Left → mark g j ≡ Undecided
  pub others : (j : ℕ) → ¬ (Contains members j × (mark f j ≡ Left)) → mark g j ≡ mark f j

-- g is f with the undecided places below n chosen
pub record AreChosen (n : ℕ) (f g : List Mark) : Type 0 where
  pub chosen : (j : ℕ) → j < n → mark f j ≡ Undecided → mark g j ≡ Chosen
  pub others : (j : ℕ) → mark f j ≢ Undecided → mark g j ≡ mark f j
