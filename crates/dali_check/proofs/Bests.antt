use Rattle.std.proofs.Common.{◌≡◌, ◌≢◌, inl, inr, ◌⊎◌, ℕ, ◌<◌, ◌≤◌, ℤ, pos, ◌+ℤ◌, ◌≤ℤ◌, Bool, true, false, not, ◌&&◌, ◌||◌, List, [], ◌∷◌, ◌++◌, length, eqb, refl, ap, ◌∙◌, sym, subst, arith}
use Rattle.std.specs.List.{Contains}
use Rattle.std.proofs.lemmas.Bool.{cases_eq, cases_lt, cases_Bool, false_from_ne_true}
use Rattle.std.proofs.lemmas.Bool.Decides.{eqb_tells}
use Rattle.std.proofs.lemmas.Int.{ints}
use Rattle.std.proofs.lemmas.List.{get_or_past}
use Rattle.std.proofs.lemmas.List.Sums.{sum_by-cons}
use Rattle.dali_problem.specs.Sums.{sum_below, sum_over, pick}
use Rattle.dali_problem.specs.Clearing.{Item, no_item, Clearing, worth, effect}
use Rattle.dali_problem.specs.Limits.{IsProblem}
use Rattle.dali_problem.specs.Feasible.{ArePlaces, booked, IsFeasible, value_of}
use Rattle.dali_problem.proofs.Lines.{item_limits}
use Rattle.dali_problem.proofs.SetLaws.{is_in, is_in_of, contains_of, booked_in, value_in}
use Rattle.dali_problem.proofs.SumLaws.{sum_below_add, sum_below_same, sum_over_append}
use Rattle.dali_fixes.proofs.Sets.{total, worth_of, Covers, past_total}
use Rattle.dali_fixes.proofs.Exchange.{with, with_here, with_there, with_total, with_value}
use Rattle.dali_fixes.proofs.Worths.{listed, listed_feasible}
use Rattle.dali_rest.specs.Addable.{CanAddOne, CanAddRest}
use Rattle.dali_rest.specs.Swappable.{CanSwap}
use Rattle.dali_rest.specs.Sets.{outside, without}
use Rattle.dali_rest.proofs.Standing.{without_sum}
use Rattle.dali_rest.proofs.Rests.{outside_has}
use Rattle.dali_check.specs.Best.{Best, IsGrown}
use Rattle.dali_check.proofs.Summing.{split_pick}

-- A set to which something could be added, or in which something could be exchanged for better, isn't best.

-- a test that books what a feasible list books covers
covers_like : (p : Clearing) (t : List ℕ) (w : ℕ → Bool) → IsProblem p → IsFeasible p t → ((l : ℕ) → total p w l ≡ booked p t l) → Covers p w
covers_like p t w limits feasible same = record {
  covered = (λ l. elim (cases_lt l (length p.lines)) as (λ _. pos 0 ≤ℤ total p w l) [
    | inl within ↦ subst (λ z. pos 0 ≤ℤ z) (sym (same l)) (feasible.covered l within)
    | inr past ↦ subst (λ z. pos 0 ≤ℤ z) (sym (past_total p w l limits past)) (omega (arith, ints))
  ]);
}

-- so nothing that covers is worth more than a best set
not_above : (p : Clearing) (s : List ℕ) (w : ℕ → Bool) → Best p s → Covers p w → worth_of p w ≤ℤ pos (value_of p s)
not_above p s w best covers =
    let value = (listed p w).value in
    let most = best.most (listed p w).set (listed p w).places (listed_feasible p w covers) in
    omega (arith, ints, value, most)

worth_low : (p : Clearing) (j : ℕ) → IsProblem p → j < length p.items → 1 ≤ worth p j
worth_low p j limits within = (item_limits p j limits within).value_low

out_false : (s : List ℕ) (j : ℕ) → ¬ (Contains s j) → is_in j s ≡ false
out_false s j out = false_from_ne_true (is_in j s) (λ told. out (contains_of s j told))

none_more : (p : Clearing) (s : List ℕ) → IsProblem p → Best p s → ¬ (CanAddOne p s)
none_more p s limits best add =
    let j = add.place in
    let w : ℕ → Bool = λ i. is_in i s in
    let gone : is_in j s ≡ false = out_false s j add.outside in
    let covers = covers_like p (j ∷ s) (with j w) limits add.feasible
    (λ l. (let more = with_total p w j l add.in_range gone in let all = booked_in p s l best.places in omega (arith, ints, more, all))) in
    let most = not_above p s (with j w) best covers in
    let value = with_value p w j add.in_range gone in
    let old = value_in p s best.places in
    let low = worth_low p j limits add.in_range in
    omega (arith, ints, most, value, old, low)

-- two sets that share no place, together
sum_either : (g : ℕ → ℤ) (r s : List ℕ) (n : ℕ) → ((i : ℕ) → (is_in i r && is_in i s) ≡ false) →
    sum_below (λ j. pick (is_in j r || is_in j s) (g j)) n ≡ sum_below (λ j. pick (is_in j r) (g j)) n +ℤ sum_below (λ j. pick (is_in j s) (g j)) n
sum_either g r s n apart =
    sum_below_same (λ j. pick (is_in j r || is_in j s) (g j)) (λ j. pick (is_in j r) (g j) +ℤ pick (is_in j s) (g j)) n
    (λ j below. split_pick true (is_in j r) (is_in j s) (g j) (apart j))
    ∙ sum_below_add (λ j. pick (is_in j r) (g j)) (λ j. pick (is_in j s) (g j)) n

some_worth : (p : Clearing) (r : List ℕ) → IsProblem p → ArePlaces p r → r ≢ [] → 1 ≤ value_of p r
some_worth p [] limits places some = absurd (some refl)
some_worth p (x ∷ xs) limits places some =
    let first = worth_low p x limits (places.in_range 0 x (omega arith)) in
    let sum = sum_by-cons (worth p) x xs in
    omega (arith, first, sum)

no_rest : (p : Clearing) (s members : List ℕ) → IsProblem p → Best p s → ¬ (CanAddRest p s members)
no_rest p s members limits best add =
    let r = add.rest in
    let n = length p.items in
    let w : ℕ → Bool = λ i. is_in i r || is_in i s in
    let apart : (i : ℕ) → (is_in i r && is_in i s) ≡ false = λ i. not_both (is_in i r) (is_in i s)
    (λ here there. (outside_has members s i (add.is_rest.within.part i (contains_of r i here))).1 (contains_of s i there)) in
    let covers = covers_like p (r ++ s) w limits add.feasible (λ l.
    (let sum = sum_either (λ j. effect p j l) r s n apart in
    let split = sum_over_append (λ j. effect p j l) r s in
    let own = booked_in p r l add.is_rest.places in
    let old = booked_in p s l best.places in
    omega (arith, ints, sum, split, own, old))) in
    let most = not_above p s w best covers in
    let value = sum_either (λ j. pos (worth p j)) r s n apart in
    let own = value_in p r add.is_rest.places in
    let old = value_in p s best.places in
    let low = some_worth p r limits add.is_rest.places add.not_empty in
    omega (arith, ints, most, value, own, old, low)
  where
    not_both : (a b : Bool) → (a ≡ true → b ≡ true → ⊥) → (a && b) ≡ false
    not_both true true none = absurd (none refl refl)
    not_both true false none = refl
    not_both false b none = refl

-- a set with one place less
abbrev less : ℕ → (ℕ → Bool) → ℕ → Bool
less j w i = not (eqb i j) && w i

less_here : (w : ℕ → Bool) (j : ℕ) → less j w j ≡ false
less_here w j = elim (eqb_tells j j) as (λ _. less j w j ≡ false) [
  | inl is ↦ ap (λ b. not b && w j) is.0
  | inr other ↦ absurd (other.1 refl)
]

less_there : (w : ℕ → Bool) (j i : ℕ) → i ≢ j → less j w i ≡ w i
less_there w j i off = elim (eqb_tells i j) as (λ _. less j w i ≡ w i) [
  | inl is ↦ absurd (off is.1)
  | inr other ↦ ap (λ b. not b && w i) other.0
]

less_none : (w : ℕ → Bool) (j i : ℕ) → w i ≡ false → less j w i ≡ false
less_none w j i gone = by_cases (not (eqb i j)) (w i) gone
  where
    by_cases : (a b : Bool) → b ≡ false → (a && b) ≡ false
    by_cases true b gone = gone
    by_cases false b gone = refl

-- and with it again
whole_again : (w : ℕ → Bool) (j i : ℕ) → w j ≡ true → with j (less j w) i ≡ w i
whole_again w j i there = elim (cases_eq i j) as (λ _. with j (less j w) i ≡ w i) [
  | inl same ↦ with_here (less j w) j i same ∙ sym there ∙ ap w (sym same)
  | inr other ↦ with_there (less j w) j i other ∙ less_there w j i other
]

no_better : (p : Clearing) (s members : List ℕ) → IsProblem p → Best p s → ¬ (CanSwap p s members)
no_better p s members limits best swap =
    let i = swap.given in
    let j = swap.taken in
    let n = length p.items in
    let w : ℕ → Bool = λ k. is_in k s in
    let there : is_in i s ≡ true = is_in_of s i swap.given_in in
    let gone : is_in j s ≡ false = out_false s j swap.taken_out in
    let in_i : i < n = subst (λ m. m < length p.items) swap.given_in.2 (best.places.in_range swap.given_in.0 i swap.given_in.1) in
    let in_j : j < n = inside i j swap.greater in
    let out : less i w j ≡ false = less_none w i j gone in
    let covers = covers_like p (j ∷ without i s) (with j (less i w)) limits swap.feasible (λ l.
    (let more = with_total p (less i w) j l in_j out in
    let back = with_total p (less i w) i l in_i (less_here w i) in
    let whole = sum_below_same (λ k. pick (with i (less i w) k) (effect p k l)) (λ k. pick (w k) (effect p k l)) n
    (λ k below. ap (λ b. pick b (effect p k l)) (whole_again w i k there)) in
    let all = booked_in p s l best.places in
    let sum = without_sum (λ k. effect p k l) i s best.places.rising there in
    omega (arith, ints, more, back, whole, all, sum))) in
    let most = not_above p s (with j (less i w)) best covers in
    let value = with_value p (less i w) j in_j out in
    let back = with_value p (less i w) i in_i (less_here w i) in
    let whole = sum_below_same (λ k. pick (with i (less i w) k) (pos (worth p k))) (λ k. pick (w k) (pos (worth p k))) n
    (λ k below. ap (λ b. pick b (pos (worth p k))) (whole_again w i k there)) in
    let old = value_in p s best.places in
    let greater = swap.greater in
    omega (arith, ints, most, value, back, whole, old, greater)
  where
    inside : (i j : ℕ) → worth p i < worth p j → j < length p.items
    inside i j greater = elim (cases_lt j (length p.items)) as (λ _. j < length p.items) [
      | inl within ↦ within
      | inr past ↦ absurd (let none : worth p j ≡ 0 = ap (λ (item : Item). item.value) (get_or_past p.items j no_item past) in omega (arith, none, greater))
    ]

pub best_grown : (p : Clearing) (s : List ℕ) → IsProblem p → Best p s → IsGrown p s
best_grown p s limits best = record {
  none_more = none_more p s limits best;
  no_rest = (λ members. no_rest p s members limits best);
  no_better = (λ members. no_better p s members limits best);
}
