use Rattle.std.proofs.Common.{◌≡◌, inl, inr, ℕ, ◌<◌, ◌≤◌, ℤ, pos, ◌+ℤ◌, ◌≤ℤ◌, Bool, true, false, List, length, get_or, refl, ap, sym, ◌∙◌, subst, arith}
use Rattle.std.specs.Int.{int_max, int_min}
use Rattle.std.specs.Int.Signed.{lt_z}
use Rattle.std.proofs.lemmas.Bool.{cases_lt, false_from_ne_true}
use Rattle.std.proofs.lemmas.Int.{ints, clamps}
use Rattle.std.proofs.lemmas.List.{get_or_past}
use Rattle.dali_problem.specs.declared.row.LineRow.{LineRow}
use Rattle.dali_problem.specs.declared.mark.Mark.{Mark}
use Rattle.dali_problem.specs.declared.mark.Mark.TheVariants.{Stranger, Undecided, Chosen, Left}
use Rattle.dali_problem.specs.Sums.{sum_below, sum_over, pick}
use Rattle.dali_problem.specs.Clearing.{Item, Clearing, no_line, no_item, item_at, balance, worth, effect, on_line}
use Rattle.dali_problem.specs.Limits.{IsProblem}
use Rattle.dali_problem.specs.Feasible.{ArePlaces, IsFeasible}
use Rattle.dali_problem.specs.Partial.{mark, is_chosen, is_undecided, held, Agrees}
use Rattle.dali_problem.specs.Rules.{credits, debits, is_short}
use Rattle.dali_problem.proofs.SumLaws.{sum_below_zero, sum_below_add, sum_below_same, sum_below_le}
use Rattle.dali_problem.proofs.SetLaws.{is_in, is_in_of, contains_of, booked_in}
use Rattle.dali_problem.proofs.Lines.{item_limits}
use Rattle.dali_problem.proofs.Turned.{none_on}

-- a set as a test of places: what a line has after it, and what it is worth
abbrev pub total : Clearing → (ℕ → Bool) → ℕ → ℤ
total p w l = balance p l +ℤ sum_below (λ j. pick (w j) (effect p j l)) (length p.items)

abbrev pub worth_of : Clearing → (ℕ → Bool) → ℤ
worth_of p w = sum_below (λ j. pick (w j) (pos (worth p j))) (length p.items)

-- no line is negative after it
pub record Covers (p : Clearing) (w : ℕ → Bool) : Type 0 where
  pub covered : (l : ℕ) → pos 0 ≤ℤ total p w l

-- it agrees with a partial choice
pub record Goes (f : List Mark) (w : ℕ → Bool) : Type 0 where
  pub chosen : (j : ℕ) → mark f j ≡ Chosen → w j ≡ true
  pub stranger : (j : ℕ) → mark f j ≡ Stranger → w j ≡ false
  pub left : (j : ℕ) → mark f j ≡ Left → w j ≡ false

-- whatever agrees and leaves no line negative is worth at most u
pub record AtMost (p : Clearing) (f : List Mark) (u : ℕ) : Type 0 where
  pub most : (w : ℕ → Bool) → Covers p w → Goes f w → worth_of p w ≤ℤ pos u

-- some set that agrees and leaves no line negative is worth at least v
pub record Finds (p : Clearing) (f : List Mark) (v : ℤ) : Type 0 where
  pub test : ℕ → Bool
  pub covers : Covers p test
  pub goes : Goes f test
  pub least : v ≤ℤ worth_of p test

-- past the last line nothing stands
pub past_line : (p : Clearing) (j l : ℕ) → IsProblem p → length p.lines ≤ l → effect p j l ≡ pos 0
past_line p j l limits past = elim (cases_lt j (length p.items)) as (λ _. effect p j l ≡ pos 0) [
  | inl within ↦
      let are = (item_limits p j limits within).effects in
      none_on l (item_at p j).effects (λ k d below same.
      (let inside : (get_or (item_at p j).effects k d).line < length p.lines = are.in_range k d below in
      let at : (get_or (item_at p j).effects k d).line ≡ l = same in
      absurd (omega arith)))
  | inr none ↦ ap (λ (item : Item). sum_over (on_line l) item.effects) (get_or_past p.items j no_item none)
]

pub past_total : (p : Clearing) (w : ℕ → Bool) (l : ℕ) → IsProblem p → length p.lines ≤ l → total p w l ≡ pos 0
past_total p w l limits past =
    let bal : balance p l ≡ pos 0 = ap (λ (row : LineRow). pos row.balance) (get_or_past p.lines l no_line past) in
    let none : sum_below (λ j. pick (w j) (effect p j l)) (length p.items) ≡ sum_below (λ _. pos 0) (length p.items) =
    sum_below_same (λ j. pick (w j) (effect p j l)) (λ _. pos 0) (length p.items)
    (λ j below. ap (pick (w j)) (past_line p j l limits past) ∙ nothing (w j)) in
    omega (arith, ints, bal, none, sum_below_zero (length p.items))
  where
    nothing : (b : Bool) → pick b (pos 0) ≡ pos 0
    nothing true = refl
    nothing false = refl

-- a feasible set, as a test
pub covers_of : (p : Clearing) (t : List ℕ) → IsProblem p → ArePlaces p t → IsFeasible p t → Covers p (λ j. is_in j t)
covers_of p t limits places feasible = record {
  covered = (λ l. elim (cases_lt l (length p.lines)) as (λ _. pos 0 ≤ℤ total p (λ j. is_in j t) l) [
    | inl within ↦ subst (λ z. pos 0 ≤ℤ z) (booked_in p t l places) (feasible.covered l within)
    | inr past ↦ subst (λ z. pos 0 ≤ℤ z) (sym (past_total p (λ j. is_in j t) l limits past)) (omega (arith, ints))
  ]);
}

pub goes_of : (f : List Mark) (t : List ℕ) → Agrees f t → Goes f (λ j. is_in j t)
goes_of f t agrees = record {
  chosen = (λ j is. is_in_of t j (agrees.chosen j is));
  stranger = (λ j is. false_from_ne_true (is_in j t) (λ told. agrees.members j (contains_of t j told) is));
  left = (λ j is. false_from_ne_true (is_in j t) (λ told. agrees.left j (contains_of t j told) is));
}

-- one place: at most its credit, at least its debit, where it is open
one_most : (m : Mark) (b : Bool) (z : ℤ) → (m ≡ Chosen → b ≡ true) → (m ≡ Stranger → b ≡ false) → (m ≡ Left → b ≡ false) →
    pick b z ≤ℤ (pick (is_chosen m) z +ℤ pick (is_undecided m) (int_max (pos 0) z))
one_most Chosen b z chosen stranger left =
    let taken : pick b z ≡ z = ap (λ c. pick c z) (chosen refl) in
    omega (arith, ints, taken)
one_most Stranger b z chosen stranger left =
    let gone : pick b z ≡ pos 0 = ap (λ c. pick c z) (stranger refl) in
    omega (arith, ints, gone)
one_most Left b z chosen stranger left =
    let gone : pick b z ≡ pos 0 = ap (λ c. pick c z) (left refl) in
    omega (arith, ints, gone)
one_most Undecided true z chosen stranger left = omega (arith, ints, clamps)
one_most Undecided false z chosen stranger left = omega (arith, ints, clamps)

one_least : (m : Mark) (b : Bool) (z : ℤ) → (m ≡ Chosen → b ≡ true) → (m ≡ Stranger → b ≡ false) → (m ≡ Left → b ≡ false) →
    (pick (is_chosen m) z +ℤ pick (is_undecided m) (int_min (pos 0) z)) ≤ℤ pick b z
one_least Chosen b z chosen stranger left =
    let taken : pick b z ≡ z = ap (λ c. pick c z) (chosen refl) in
    omega (arith, ints, taken)
one_least Stranger b z chosen stranger left =
    let gone : pick b z ≡ pos 0 = ap (λ c. pick c z) (stranger refl) in
    omega (arith, ints, gone)
one_least Left b z chosen stranger left =
    let gone : pick b z ≡ pos 0 = ap (λ c. pick c z) (left refl) in
    omega (arith, ints, gone)
one_least Undecided true z chosen stranger left = omega (arith, ints, clamps)
one_least Undecided false z chosen stranger left = omega (arith, ints, clamps)

-- one line: at most what is held with all credits, at least what is held with all debits
pub line_most : (p : Clearing) (f : List Mark) (w : ℕ → Bool) (l : ℕ) → Goes f w → total p w l ≤ℤ (held p f l +ℤ credits p f l)
line_most p f w l goes =
    let each = sum_below_le (λ j. pick (w j) (effect p j l))
    (λ j. pick (is_chosen (mark f j)) (effect p j l) +ℤ pick (is_undecided (mark f j)) (int_max (pos 0) (effect p j l))) (length p.items)
    (λ j below. one_most (mark f j) (w j) (effect p j l) (goes.chosen j) (goes.stranger j) (goes.left j)) in
    let split = sum_below_add (λ j. pick (is_chosen (mark f j)) (effect p j l))
    (λ j. pick (is_undecided (mark f j)) (int_max (pos 0) (effect p j l))) (length p.items) in
    omega (arith, ints, each, split)

pub line_least : (p : Clearing) (f : List Mark) (w : ℕ → Bool) (l : ℕ) → Goes f w → (held p f l +ℤ debits p f l) ≤ℤ total p w l
line_least p f w l goes =
    let each = sum_below_le
    (λ j. pick (is_chosen (mark f j)) (effect p j l) +ℤ pick (is_undecided (mark f j)) (int_min (pos 0) (effect p j l)))
    (λ j. pick (w j) (effect p j l)) (length p.items)
    (λ j below. one_least (mark f j) (w j) (effect p j l) (goes.chosen j) (goes.stranger j) (goes.left j)) in
    let split = sum_below_add (λ j. pick (is_chosen (mark f j)) (effect p j l))
    (λ j. pick (is_undecided (mark f j)) (int_min (pos 0) (effect p j l))) (length p.items) in
    omega (arith, ints, each, split)

-- where a line is short, nothing agrees
pub short_none : (p : Clearing) (f : List Mark) (w : ℕ → Bool) (l : ℕ) → is_short p f l ≡ true → Covers p w → Goes f w → ⊥
short_none p f w l short covers goes =
    let most = line_most p f w l goes in
    let up = covers.covered l in
    let z : ℤ = held p f l +ℤ credits p f l in
    let high : pos 0 ≤ℤ z = omega (arith, ints, most, up) in
    not_short z short high
  where
    not_short : (z : ℤ) → lt_z z (pos 0) ≡ true → pos 0 ≤ℤ z → ⊥
    not_short z told high = grind (arith, ints)
