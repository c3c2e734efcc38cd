use Rattle.std.specs.Prelude.{◌≡◌, ◌≢◌, ℕ, zero, suc, ◌+◌, ◌==◌, ◌<◌, pos, Bool, true, false, ◌⊎◌, Option, Some, None, is_some, List, [], ◌∷◌, ◌++◌, length, slice_index, slice_index_or, slice_set, if◌then◌else◌, count_by, not}
use Rattle.std.specs.List.{All, AllPairs, Contains}
use Rattle.dali_problem.specs.Clearing.{Clearing, effect}
use Rattle.dali_problem.specs.declared.columns.Touch.{Touch}
use Rattle.dali_problem.specs.Touches.{touches}
use Rattle.dali_reduce.specs.Run.{IsTouch}
use Rattle.dali_restrict.specs.Below.{places_below}
use Rattle.dali_parts.specs.Finest.{Linked}

-- what follows serves private functions: no public clause cites it

-- the number of the class of a place, where it has one
abbrev pub class_at : List (Option ℕ) → ℕ → Option ℕ
class_at classes j = slice_index_or classes j None

abbrev pub was_seen : List Bool → ℕ → Bool
was_seen seen l = slice_index_or seen l false

-- a flood of this class: places of one class are linked, the places of a line that was seen are of one class, and a place
-- that has a class waits, or all its lines were seen
pub record IsFlooding (p : Clearing) (class : ℕ) (classes : List (Option ℕ)) (seen : List Bool) (waiting : List ℕ) : Type 0 where
  pub size : length classes ≡ length p.items
  pub lines : length seen ≡ length p.lines
  pub linked : (i j c : ℕ) → class_at classes i ≡ Some c → class_at classes j ≡ Some c → Linked p i j
  pub same : (l i j : ℕ) → was_seen seen l ≡ true → effect p i l ≢ pos 0 → effect p j l ≢ pos 0 →
      (is_some (class_at classes i) ≡ true) × (class_at classes i ≡ class_at classes j)
  pub done : (j c l : ℕ) → class_at classes j ≡ Some c → effect p j l ≢ pos 0 → (was_seen seen l ≡ true) ⊎ Contains waiting j
  pub waits : (j : ℕ) → Contains waiting j → class_at classes j ≡ Some class

-- places without a class got this one, and no other place changed
pub record Grows (class : ℕ) (old new : List (Option ℕ)) : Type 0 where
  pub size : length new ≡ length old
  pub each : (j : ℕ) → (class_at new j ≡ class_at old j) ⊎ ((class_at old j ≡ None) × (class_at new j ≡ Some class))

-- a place had no class, got this one and waits
pub record Got (class place : ℕ) (c0 c1 : List (Option ℕ)) (w0 w1 : List ℕ) : Type 0 where
  pub open_before : class_at c0 place ≡ None
  pub classes : c1 ≡ slice_set c0 place (Some class)
  pub waits : w1 ≡ w0 ++ place ∷ []

-- a place had a class, and nothing changed
pub record Had (place : ℕ) (c0 c1 : List (Option ℕ)) (w0 w1 : List ℕ) : Type 0 where
  pub some : is_some (class_at c0 place) ≡ true
  pub classes : c1 ≡ c0
  pub waits : w1 ≡ w0

abbrev pub Enters : ℕ → ℕ → List (Option ℕ) → List (Option ℕ) → List ℕ → List ℕ → Type 0
Enters class place c0 c1 w0 w1 = Got class place c0 c1 w0 w1 ⊎ Had place c0 c1 w0 w1

-- from c0 to c1 places of touches got the class and wait, and a flood stays one where all touch one line that wasn't seen
pub record Spreads (class : ℕ) (c0 c1 : List (Option ℕ)) (seen : List Bool) (w0 w1 : List ℕ) (ts : List Touch) : Type 0 where
  pub spreads : (p : Clearing) (place l : ℕ) → IsFlooding p class c0 seen (place ∷ w0) → effect p place l ≢ pos 0 →
      was_seen seen l ≡ false → All (IsTouch p l) ts → IsFlooding p class c1 seen (place ∷ w1)

-- a line was looked at, whose touches are these, and a flood stays one where a place that waits changes the line
pub record Sees (class : ℕ) (c0 c1 : List (Option ℕ)) (s0 s1 : List Bool) (w0 w1 : List ℕ) (l : ℕ) (ts : List Touch) : Type 0 where
  pub sees : (p : Clearing) (place : ℕ) → IsFlooding p class c0 s0 (place ∷ w0) → effect p place l ≢ pos 0 → l < length p.lines →
      ts ≡ touches p l → IsFlooding p class c1 s1 (place ∷ w1)

-- how many places have no class
abbrev pub open_count : List (Option ℕ) → ℕ
open_count classes = count_by (λ o. not (is_some o)) classes

-- each place below n has one of so many classes, which are numbered in order of their first places
pub record AreNumbered (p : Clearing) (classes : List (Option ℕ)) (seen : List Bool) (n count : ℕ) : Type 0 where
  pub flooding : IsFlooding p 0 classes seen []
  pub below : (j : ℕ) → j < n → is_some (class_at classes j) ≡ true
  pub firsts : List ℕ
  pub size : length firsts ≡ count
  pub rising : AllPairs (λ i j. i < j) firsts
  pub early : All (λ j. j < n) firsts
  pub own : (c : ℕ) → c < count → class_at classes (slice_index firsts c) ≡ Some c
  pub least : (j c : ℕ) → class_at classes j ≡ Some c → (c < count) × (slice_index firsts c < j + 1)

-- whether a place is of class c
abbrev pub is_of : ℕ → Option ℕ → Bool
is_of c None = false
is_of c (Some d) = d == c

-- the places below n of class c
abbrev pub members_below : List (Option ℕ) → ℕ → ℕ → List ℕ
members_below classes c n = places_below (λ j. is_of c (class_at classes j)) n

-- part c; past the last one it is empty
abbrev pub part_at : List (List ℕ) → ℕ → List ℕ
part_at parts c = slice_index_or parts c []
