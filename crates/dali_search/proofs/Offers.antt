use Rattle.std.proofs.Common.{◌≡◌, ℕ, ◌*◌, ◌<◌, ◌≤◌, ℤ, pos, ◌≤ℤ◌, ◌*ℤ◌, Bool, true, false, not, List, length, refl, ap, sym, ◌∙◌, subst, arith}
use Rattle.std.proofs.lemmas.Bool.{not-false, not-true}
use Rattle.std.proofs.lemmas.Int.{ints, clamps}
use Rattle.dali_base.specs.Limits.{most_bound}
use Rattle.dali_problem.specs.declared.mark.Mark.{Mark}
use Rattle.dali_problem.specs.declared.mark.Mark.TheVariants.{Stranger, Undecided, Chosen, Left}
use Rattle.dali_problem.specs.Sums.{pick}
use Rattle.dali_problem.specs.Clearing.{Clearing, worth}
use Rattle.dali_problem.specs.Limits.{IsProblem}
use Rattle.dali_problem.specs.Feasible.{ArePlaces, value_of}
use Rattle.dali_problem.specs.Partial.{mark, is_undecided, Agrees, held}
use Rattle.dali_problem.specs.Rules.{is_short, all_below}
use Rattle.dali_problem.proofs.SumLaws.{sum_below_le, sum_below_scale, sum_below_same}
use Rattle.dali_problem.proofs.SetLaws.{is_in, is_in_of, value_in}
use Rattle.dali_problem.proofs.Values.{value_within}
use Rattle.dali_rest.specs.Swaps.{AreDecided}
use Rattle.dali_rest.proofs.Sides.{short_decided, nonneg_of}
use Rattle.dali_lagrange.specs.Bound.{sum_of, count_of}
use Rattle.dali_lagrange.proofs.Regroup.{pick_scale}
use Rattle.dali_lagrange.proofs.Zero.{zero_sum_is}
use Rattle.dali_check.specs.Lean.{is_open}
use Rattle.dali_check.proofs.Reducing.{all_below_at}
use Rattle.dali_check.proofs.Entering.{contains_has}
use Rattle.dali_greedy.specs.Grown.{IsOverdrawn}
use Rattle.dali_search.specs.Start.{all_places}
use Rattle.dali_search.proofs.Starting.{places_rise, has_place}

-- where no member is undecided, no place is
pub none_open : (p : Clearing) (f : List Mark) (j : ℕ) → is_open p f ≡ false → j < length p.items → is_undecided (mark f j) ≡ false
unfolding is_open
none_open p f j told below = not-true (is_undecided (mark f j))
    (all_below_at (λ i. not (is_undecided (mark f i))) (length p.items) j
    (not-false (all_below (λ i. not (is_undecided (mark f i))) (length p.items)) told) below)

true_false : true ≡ false → ⊥
true_false is = cc

decided_all : (p : Clearing) (f : List Mark) → is_open p f ≡ false → AreDecided p f
decided_all p f told = record {
  decided = (λ j below is. true_false (sym (ap is_undecided is) ∙ none_open p f j told below));
}

-- what a decided place counts, a set that agrees has
counted_in : (m : Mark) (b : Bool) (z : ℤ) → is_undecided m ≡ false → (m ≡ Chosen → b ≡ true) → pos 0 ≤ℤ z → count_of m z ≤ℤ pick b z
counted_in Chosen b z decided chosen up =
    let taken : pick b z ≡ z = ap (λ c. pick c z) (chosen refl) in
    omega (arith, ints, taken)
counted_in Undecided b z decided chosen up = absurd (true_false decided)
counted_in Stranger true z decided chosen up = omega (arith, ints, up)
counted_in Stranger false z decided chosen up = omega (arith, ints)
counted_in Left true z decided chosen up = omega (arith, ints, up)
counted_in Left false z decided chosen up = omega (arith, ints)

-- where all is decided, a set that agrees is worth all that is chosen
pub grown_offers : (p : Clearing) (f : List Mark) (s : List ℕ) → is_open p f ≡ false → ArePlaces p s → Agrees f s → sum_of p f (λ _. 0) ≤ℤ pos (4096 * value_of p s)
grown_offers p f s closed places agrees =
    let each = sum_below_le (λ j. count_of (mark f j) (pos 4096 *ℤ pos (worth p j))) (λ j. pick (is_in j s) (pos 4096 *ℤ pos (worth p j))) (length p.items)
    (λ j below. counted_in (mark f j) (is_in j s) (pos 4096 *ℤ pos (worth p j)) (none_open p f j closed below)
    (λ chosen. is_in_of s j (agrees.chosen j chosen)) (omega (arith, ints))) in
    let scale = sum_below_scale (pos 4096) (λ j. pick (is_in j s) (pos (worth p j))) (length p.items) in
    let picks = sum_below_same (λ j. pos 4096 *ℤ pick (is_in j s) (pos (worth p j)))
    (λ j. pick (is_in j s) (pos 4096 *ℤ pos (worth p j))) (length p.items)
    (λ j below. pick_scale (is_in j s) (pos 4096) (pos (worth p j))) in
    let value = value_in p s places in
    omega (arith, ints, each, scale, picks, value, zero_sum_is p f)

-- and where no line is short, none is overdrawn
pub none_overdrawn : (p : Clearing) (f : List Mark) → is_open p f ≡ false → ((l : ℕ) → l < length p.lines → is_short p f l ≡ false) → IsOverdrawn p f → ⊥
none_overdrawn p f closed long over =
    let up : pos 0 ≤ℤ held p f over.line = nonneg_of (held p f over.line)
    (sym (short_decided p f over.line (decided_all p f closed)) ∙ long over.line over.within) in
    absurd (omega (arith, ints, up, over.negative))

pub offered_more : (p : Clearing) (f : List Mark) (v w : ℕ) → v ≤ w → sum_of p f (λ _. 0) ≤ℤ pos (4096 * v) → sum_of p f (λ _. 0) ≤ℤ pos (4096 * w)
offered_more p f v w more told = omega (arith, ints, more, told)

-- with all multipliers 0 the Sum is at most what all items are worth
counted_all : (m : Mark) (z : ℤ) → pos 0 ≤ℤ z → count_of m z ≤ℤ z
counted_all Chosen z up = omega (arith, ints)
counted_all Undecided z up = omega (arith, ints, clamps, up)
counted_all Stranger z up = omega (arith, ints, up)
counted_all Left z up = omega (arith, ints, up)

pub zero_small : (p : Clearing) (f : List Mark) → IsProblem p → sum_of p f (λ _. 0) ≤ℤ pos (4096 * most_bound)
zero_small p f limits =
    let all : List ℕ = all_places (length p.items) in
    let are : ArePlaces p all = record { rising = (places_rise (length p.items)).rising; in_range = (places_rise (length p.items)).in_range } in
    let within = value_within p all limits are in
    let each = sum_below_le (λ j. count_of (mark f j) (pos 4096 *ℤ pos (worth p j))) (λ j. pick (is_in j all) (pos 4096 *ℤ pos (worth p j))) (length p.items)
    (λ j below. subst (λ b. count_of (mark f j) (pos 4096 *ℤ pos (worth p j)) ≤ℤ pick b (pos 4096 *ℤ pos (worth p j))) (sym (in_all (length p.items) j below))
    (counted_all (mark f j) (pos 4096 *ℤ pos (worth p j)) (omega (arith, ints)))) in
    let scale = sum_below_scale (pos 4096) (λ j. pick (is_in j all) (pos (worth p j))) (length p.items) in
    let picks = sum_below_same (λ j. pos 4096 *ℤ pick (is_in j all) (pos (worth p j)))
    (λ j. pick (is_in j all) (pos 4096 *ℤ pos (worth p j))) (length p.items)
    (λ j below. pick_scale (is_in j all) (pos 4096) (pos (worth p j))) in
    let value = value_in p all are in
    omega (arith, ints, each, scale, picks, value, within, zero_sum_is p f)
  where
    in_all : (n j : ℕ) → j < n → is_in j (all_places n) ≡ true
    in_all n j below = is_in_of (all_places n) j (contains_has (all_places n) j (has_place n j below))
