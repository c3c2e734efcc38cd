use Rattle.std.proofs.Common.{◌≡◌, ℕ, ◌*◌, ℤ, pos, ◌+ℤ◌, ◌*ℤ◌, ◌≤ℤ◌, Bool, true, false, List, length, refl, ap, arith}
use Rattle.std.proofs.lemmas.Int.{ints, clamps}
use Rattle.std.proofs.Math.IntN.{pos-*ℤ-pos}
use Rattle.dali_problem.specs.declared.mark.Mark.{Mark}
use Rattle.dali_problem.specs.declared.mark.Mark.TheVariants.{Stranger, Undecided, Chosen, Left}
use Rattle.dali_problem.specs.Sums.{sum_below, pick}
use Rattle.dali_problem.specs.Clearing.{Clearing, balance, worth, effect}
use Rattle.dali_problem.specs.Feasible.{ArePlaces, IsFeasible, booked, value_of}
use Rattle.dali_problem.specs.Partial.{mark, Agrees}
use Rattle.dali_problem.proofs.IntegerLaws.{mul_nonneg}
use Rattle.dali_problem.proofs.SumLaws.{sum_below_zero, sum_below_scale, sum_below_same, sum_below_le}
use Rattle.dali_problem.proofs.SetLaws.{is_in, is_in_of, contains_of, booked_in, value_in}
use Rattle.dali_lagrange.specs.Bound.{reduced, sum_of, count_of}
use Rattle.dali_lagrange.proofs.Regroup.{regroup, pick_scale}
use Rattle.dali_lagrange.proofs.Whole.{lines_and_places}

not_true : (b : Bool) → (b ≡ true → ⊥) → b ≡ false
not_true true no_way = absurd (no_way refl)
not_true false no_way = refl

-- a place counts at least what it gives, in the set or not
place_le : (m : Mark) (b : Bool) (z : ℤ) → (m ≡ Chosen → b ≡ true) → (m ≡ Stranger → b ≡ false) → (m ≡ Left → b ≡ false) →
    pick b z ≤ℤ count_of m z
place_le Chosen b z chosen stranger left =
    let taken : pick b z ≡ z = ap (λ c. pick c z) (chosen refl) in
    omega (arith, ints, taken)
place_le Stranger b z chosen stranger left =
    let gone : pick b z ≡ pos 0 = ap (λ c. pick c z) (stranger refl) in
    omega (arith, ints, gone)
place_le Left b z chosen stranger left =
    let gone : pick b z ≡ pos 0 = ap (λ c. pick c z) (left refl) in
    omega (arith, ints, gone)
place_le Undecided true z chosen stranger left = omega (arith, ints, clamps)
place_le Undecided false z chosen stranger left = omega (arith, ints, clamps)

agreed : (f : List Mark) (t : List ℕ) (j : ℕ) (z : ℤ) → Agrees f t → pick (is_in j t) z ≤ℤ count_of (mark f j) z
agreed f t j z agrees = place_le (mark f j) (is_in j t) z
    (λ is. is_in_of t j (agrees.chosen j is))
    (λ is. not_true (is_in j t) (λ told. agrees.members j (contains_of t j told) is))
    (λ is. not_true (is_in j t) (λ told. agrees.left j (contains_of t j told) is))

-- what lines hold after a feasible set counts nothing below 0
lines_nonneg : (p : Clearing) (t : List ℕ) (lam : ℕ → ℕ) → IsFeasible p t →
    pos 0 ≤ℤ sum_below (λ l. pos (lam l) *ℤ booked p t l) (length p.lines)
lines_nonneg p t lam feasible =
    let below = sum_below_le (λ _. pos 0) (λ l. pos (lam l) *ℤ booked p t l) (length p.lines)
    (λ l within.
    let factor : pos 0 ≤ℤ pos (lam l) = omega (arith, ints) in
    mul_nonneg (pos (lam l)) (booked p t l) factor (feasible.covered l within)) in
    omega (arith, ints, below, sum_below_zero (length p.lines))

-- no feasible set that agrees is worth more than the Sum
pub weak_duality : (p : Clearing) (f : List Mark) (lam : ℕ → ℕ) (t : List ℕ) → ArePlaces p t → IsFeasible p t → Agrees f t →
    pos (4096 * value_of p t) ≤ℤ sum_of p f lam
weak_duality p f lam t places feasible agrees =
    let value = value_in p t places in
    let scaled : pos 4096 *ℤ pos (value_of p t) ≡ pos (4096 * value_of p t) = pos-*ℤ-pos 4096 (value_of p t) in
    let times : pos 4096 *ℤ pos (value_of p t) ≡ pos 4096 *ℤ sum_below (λ j. pick (is_in j t) (pos (worth p j))) (length p.items) =
    ap (λ z. pos 4096 *ℤ z) value in
    let scale = sum_below_scale (pos 4096) (λ j. pick (is_in j t) (pos (worth p j))) (length p.items) in
    let picks = sum_below_same (λ j. pos 4096 *ℤ pick (is_in j t) (pos (worth p j)))
    (λ j. pick (is_in j t) (pos 4096 *ℤ pos (worth p j))) (length p.items)
    (λ j below. pick_scale (is_in j t) (pos 4096) (pos (worth p j))) in
    let whole = regroup (λ j. is_in j t) (λ j. pos 4096 *ℤ pos (worth p j)) (λ l. pos (lam l)) (balance p) (effect p) (length p.lines) (length p.items) in
    let lines = sum_below_same (λ l. pos (lam l) *ℤ booked p t l)
    (λ l. pos (lam l) *ℤ (balance p l +ℤ sum_below (λ j. pick (is_in j t) (effect p j l)) (length p.items))) (length p.lines)
    (λ l below. ap (λ z. pos (lam l) *ℤ z) (booked_in p t l places)) in
    let covered = lines_nonneg p t lam feasible in
    let each = sum_below_le (λ j. pick (is_in j t) (reduced p lam j)) (λ j. count_of (mark f j) (reduced p lam j)) (length p.items)
    (λ j below. agreed f t j (reduced p lam j) agrees) in
    let sum = lines_and_places p f lam in
    omega (arith, ints, scaled, times, scale, picks, whole, lines, covered, each, sum)
