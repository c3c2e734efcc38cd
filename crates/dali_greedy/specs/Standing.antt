use Rattle.std.specs.Prelude.{◌≡◌, ◌≢◌, ℕ, zero, suc, ◌+◌, ◌<◌, ℤ, pos, ◌+ℤ◌, ◌-ℤ◌, ◌≤ℤ◌, Bool, true, not, ◌&&◌, nat_lt, List, length, slice_index_or, slice_set, if◌then◌else◌}
use Rattle.std.specs.List.{Contains}
use Rattle.dali_problem.specs.declared.columns.Touch.{Touch}
use Rattle.dali_problem.specs.declared.row.Effect.{Effect}
use Rattle.dali_problem.specs.declared.mark.Mark.{Mark}
use Rattle.dali_problem.specs.declared.mark.Mark.TheVariants.{Stranger, Undecided, Chosen, Left}
use Rattle.dali_problem.specs.Clearing.{Clearing, item_at, worth, effect}
use Rattle.dali_problem.specs.Feasible.{ArePlaces}
use Rattle.dali_problem.specs.Partial.{mark, is_chosen, is_undecided, held}
use Rattle.dali_problem.specs.Rules.{is_negative}
use Rattle.dali_problem.specs.Touches.{touches, column_at}
use Rattle.dali_rest.specs.Addable.{CanAddRest}
use Rattle.dali_rest.specs.Room.{AreMarksOf}
use Rattle.dali_rest.specs.Swaps.{AreDecided}

-- what follows serves the proofs of private functions: no public clause cites it

-- a set as marks, with what each line has after it
pub record Standing : Type 0 where
  pub marks : List Mark
  pub has : List ℤ

-- each place is decided, and each line has what the chosen ones leave it
pub record IsStandOf (p : Clearing) (k : Standing) : Type 0 where
  pub marks : length k.marks ≡ length p.items
  pub members : (j : ℕ) → j < length p.items → mark k.marks j ≢ Stranger
  pub decided : AreDecided p k.marks
  pub lines : length k.has ≡ length p.lines
  pub has : (l : ℕ) → l < length p.lines → slice_index_or k.has l (pos 0) ≡ held p k.marks l

-- no line is negative
pub record Holds (p : Clearing) (g : List Mark) : Type 0 where
  pub covered : (l : ℕ) → l < length p.lines → pos 0 ≤ℤ held p g l

-- g has each place that f chooses, and none that f leaves or that isn't a member
pub record GoesWith (f g : List Mark) : Type 0 where
  pub members : (j : ℕ) → mark g j ≡ Chosen → mark f j ≢ Stranger
  pub chosen : (j : ℕ) → mark f j ≡ Chosen → mark g j ≡ Chosen
  pub left : (j : ℕ) → mark g j ≡ Chosen → mark f j ≢ Left

-- i for j: with place j in place of i no line is negative
abbrev pub exchanged : List Mark → ℕ → ℕ → List Mark
exchanged g i j = slice_set (slice_set g i Left) j Chosen

-- undecided i can be exchanged for j, which is worth more
pub record Betters (p : Clearing) (f g : List Mark) (j i : ℕ) : Type 0 where
  pub undecided : mark f i ≡ Undecided
  pub chosen : mark g i ≡ Chosen
  pub less : worth p i < worth p j
  pub holds : Holds p (exchanged g i j)

-- place j can neither be added nor be exchanged for a place of less value
pub record IsStuck (p : Clearing) (f g : List Mark) (j : ℕ) : Type 0 where
  pub alone : ¬ (Holds p (slice_set g j Chosen))
  pub exchange : (i : ℕ) → ¬ (Betters p f g j i)

-- what the places below n are worth that aren't chosen
abbrev pub left_worth : Clearing → List Mark → ℕ → ℕ
left_worth p g zero = 0
left_worth p g (suc n) = left_worth p g n + (if is_chosen (mark g n) then 0 else worth p n)

-- the columns of p
pub record AreColumns (p : Clearing) (columns : List (List Touch)) : Type 0 where
  pub lines : length columns ≡ length p.lines
  pub touches : (l : ℕ) → l < length p.lines → column_at columns l ≡ touches p l

-- an effect of place j that its line can't bear
pub record IsTight (p : Clearing) (k : Standing) (j : ℕ) (e : Effect) : Type 0 where
  pub effect : Contains (item_at p j).effects e
  pub negative : is_negative (slice_index_or k.has e.line (pos 0) +ℤ e.amount) ≡ true

-- a touch of line l: a place with what it changes the line by
pub record IsTouch (p : Clearing) (l : ℕ) (t : Touch) : Type 0 where
  pub place : t.place < length p.items
  pub amount : t.amount ≡ effect p t.place l

-- the item of a touch is chosen, undecided in f, worth less than place j, and without it the line bears the effect of j
abbrev pub gives_way : Clearing → List Mark → Standing → ℕ → Effect → Touch → Bool
gives_way p f k j e t = is_chosen (mark k.marks t.place) && is_undecided (mark f t.place) && nat_lt (worth p t.place) (worth p j)
    && not (is_negative (slice_index_or k.has e.line (pos 0) +ℤ e.amount -ℤ t.amount))

-- whether a place with this mark may be in the set, or not in it
abbrev pub agrees_at : Mark → Bool → Bool
agrees_at Chosen taken = taken
agrees_at Undecided taken = true
agrees_at Left taken = not taken
agrees_at Stranger taken = not taken

-- s is the set of the marks, and the rest of the members outside it can't be added
pub record IsDone (p : Clearing) (g : List Mark) (members s : List ℕ) : Type 0 where
  pub places : ArePlaces p s
  pub stands : AreMarksOf (length p.items) s g
  pub no_rest : ¬ (CanAddRest p s members)

-- s has each place with the mark m, and no other
pub record HasMarked (p : Clearing) (f : List Mark) (m : Mark) (s : List ℕ) : Type 0 where
  pub marked : (j : ℕ) → Contains s j → mark f j ≡ m
  pub all : (j : ℕ) → j < length p.items → mark f j ≡ m → Contains s j

-- g is f with each place chosen that r has undecided
pub record IsWithRest (p : Clearing) (r f g : List Mark) : Type 0 where
  pub chosen : (j : ℕ) → j < length p.items → mark r j ≡ Undecided → mark g j ≡ Chosen
  pub others : (j : ℕ) → mark r j ≢ Undecided → mark g j ≡ mark f j
