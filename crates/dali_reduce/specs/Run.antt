use Rattle.std.specs.Prelude.{◌≡◌, ◌≢◌, ℕ, ◌<◌, ◌≤◌, pos, Bool, true, false, ◌||◌, ◌⊎◌, Some, List, ◌++◌, length, slice_index_or}
use Rattle.std.specs.List.{All, list_all}
use Rattle.dali_problem.specs.declared.columns.Touch.{Touch}
use Rattle.dali_problem.specs.declared.mark.Mark.{Mark}
use Rattle.dali_problem.specs.Clearing.{Clearing, effect}
use Rattle.dali_problem.specs.Rules.{is_negative, is_short, is_barred, is_needed, is_safe}
use Rattle.dali_tree.specs.declared.fix.Fix.{Fix}
use Rattle.dali_tree.specs.Fits.{fix_fits}
use Rattle.dali_fixes.specs.Fixed.{place_of, after}

-- what follows serves private functions: no public clause cites it

-- fixes were taken, from f to g
pub record GoesOn (p : Clearing) (f g : List Mark) (old new : List Fix) : Type 0 where
  pub more : List Fix
  pub added : new ≡ old ++ more
  pub leads : after p more f ≡ Some g
  pub fit : list_all (fix_fits (length p.items) (length p.lines)) more ≡ true

-- a fix, from number n on, changes line l
pub record Waits (p : Clearing) (fixes : List Fix) (n l : ℕ) : Type 0 where
  pub number : ℕ
  pub since : n ≤ number
  pub within : number < length fixes
  pub changed : (d : Fix) → effect p (place_of (slice_index_or fixes number d)) l ≢ pos 0

-- line l isn't short, and no undecided place makes it so on either side
pub record IsQuiet (p : Clearing) (f : List Mark) (l : ℕ) : Type 0 where
  pub long : is_short p f l ≡ false
  pub barred : (j : ℕ) → is_barred p f j l ≡ false
  pub needed : (j : ℕ) → is_needed p f j l ≡ false

-- place j debits a line that is to be looked at
pub record MayTurn (p : Clearing) (fixes : List Fix) (n : ℕ) (lines : ℕ → Bool) (j : ℕ) : Type 0 where
  pub line : ℕ
  pub debited : is_negative (effect p j line) ≡ true
  pub looked : (lines line ≡ true) ⊎ Waits p fixes n line

-- no rule is left but on these lines, for these places, and on the lines that fixes from number n on change
pub record IsSettledBut (p : Clearing) (f : List Mark) (fixes : List Fix) (n : ℕ) (lines places : ℕ → Bool) : Type 0 where
  pub quiet : (l : ℕ) → l < length p.lines → (lines l ≡ true) ⊎ (Waits p fixes n l ⊎ IsQuiet p f l)
  pub unsafe : (j : ℕ) → j < length p.items → (places j ≡ true) ⊎ ((is_safe p f j ≡ false) ⊎ MayTurn p fixes n lines j)

-- from f to g the cleared lines were looked at
pub record Clears (p : Clearing) (f g : List Mark) (old new : List Fix) (cleared : ℕ → Bool) : Type 0 where
  pub clears : (n : ℕ) (lines places : ℕ → Bool) → n ≤ length old → IsSettledBut p f old n (λ l. cleared l || lines l) places →
      IsSettledBut p g new n lines places

-- a touch says what its place changes line l by
pub record IsTouch (p : Clearing) (l : ℕ) (touch : Touch) : Type 0 where
  pub place : touch.place < length p.items
  pub amount : touch.amount ≡ effect p touch.place l
  pub changes : touch.amount ≢ pos 0

-- no rule holds for the place of a touch on line l
pub record IsStill (p : Clearing) (f : List Mark) (l : ℕ) (touch : Touch) : Type 0 where
  pub barred : is_barred p f touch.place l ≡ false
  pub needed : is_needed p f touch.place l ≡ false
  pub unsafe : is_negative touch.amount ≡ true → is_safe p f touch.place ≡ false

-- nothing was taken, since no rule holds for the places of touches on line l
pub record IsUnmoved (p : Clearing) (f g : List Mark) (old new : List Fix) (l : ℕ) (touches : List Touch) : Type 0 where
  pub marks : g ≡ f
  pub fixes : new ≡ old
  pub still : All (IsStill p f l) touches
