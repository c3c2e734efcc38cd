use Rattle.std.proofs.Common.{◌≡◌, ℕ, ◌+◌, ◌*◌, ℤ, pos, ◌*ℤ◌, ◌≤ℤ◌, ◌<ℤ◌, Bool, true, false, List, length, refl, ap, arith}
use Rattle.std.specs.Int.Signed.{lt_z}
use Rattle.std.proofs.lemmas.Int.{ints, clamps}
use Rattle.dali_problem.specs.declared.mark.Mark.{Mark}
use Rattle.dali_problem.specs.declared.mark.Mark.TheVariants.{Stranger, Undecided, Chosen, Left}
use Rattle.dali_problem.specs.Sums.{sum_below, pick}
use Rattle.dali_problem.specs.Clearing.{Clearing, balance, worth, effect}
use Rattle.dali_problem.specs.Partial.{mark}
use Rattle.dali_problem.proofs.IntegerLaws.{mul_nonneg}
use Rattle.dali_problem.proofs.SumLaws.{sum_below_zero, sum_below_scale, sum_below_same, sum_below_le}
use Rattle.dali_lagrange.specs.Bound.{reduced, sum_of, count_of}
use Rattle.dali_lagrange.specs.Multipliers.{multiplier}
use Rattle.dali_lagrange.proofs.Regroup.{regroup, pick_scale}
use Rattle.dali_lagrange.proofs.Whole.{lines_and_places}
use Rattle.dali_fixes.proofs.Sets.{total, worth_of, Covers, Goes, AtMost}
use Rattle.dali_check.specs.Proves.{closes}

-- a place counts at least what it gives, in the set or not
place_le : (m : Mark) (b : Bool) (z : ℤ) → (m ≡ Chosen → b ≡ true) → (m ≡ Stranger → b ≡ false) → (m ≡ Left → b ≡ false) →
    pick b z ≤ℤ count_of m z
place_le Chosen b z chosen stranger left =
    let taken : pick b z ≡ z = ap (λ c. pick c z) (chosen refl) in
    omega (arith, ints, taken)
place_le Stranger b z chosen stranger left =
    let gone : pick b z ≡ pos 0 = ap (λ c. pick c z) (stranger refl) in
    omega (arith, ints, gone)
place_le Left b z chosen stranger left =
    let gone : pick b z ≡ pos 0 = ap (λ c. pick c z) (left refl) in
    omega (arith, ints, gone)
place_le Undecided true z chosen stranger left = omega (arith, ints, clamps)
place_le Undecided false z chosen stranger left = omega (arith, ints, clamps)

-- what lines have after the set counts nothing below 0
lines_nonneg : (p : Clearing) (w : ℕ → Bool) (lam : ℕ → ℕ) → Covers p w →
    pos 0 ≤ℤ sum_below (λ l. pos (lam l) *ℤ total p w l) (length p.lines)
lines_nonneg p w lam covers =
    let below = sum_below_le (λ _. pos 0) (λ l. pos (lam l) *ℤ total p w l) (length p.lines)
    (λ l within.
    let factor : pos 0 ≤ℤ pos (lam l) = omega (arith, ints) in
    mul_nonneg (pos (lam l)) (total p w l) factor (covers.covered l)) in
    omega (arith, ints, below, sum_below_zero (length p.lines))

-- weak duality, over a set as a test of places
pub weak_by : (p : Clearing) (f : List Mark) (lam : ℕ → ℕ) (w : ℕ → Bool) → Covers p w → Goes f w →
    (pos 4096 *ℤ worth_of p w) ≤ℤ sum_of p f lam
weak_by p f lam w covers goes =
    let scale = sum_below_scale (pos 4096) (λ j. pick (w j) (pos (worth p j))) (length p.items) in
    let picks = sum_below_same (λ j. pos 4096 *ℤ pick (w j) (pos (worth p j)))
    (λ j. pick (w j) (pos 4096 *ℤ pos (worth p j))) (length p.items)
    (λ j below. pick_scale (w j) (pos 4096) (pos (worth p j))) in
    let whole = regroup w (λ j. pos 4096 *ℤ pos (worth p j)) (λ l. pos (lam l)) (balance p) (effect p) (length p.lines) (length p.items) in
    let covered = lines_nonneg p w lam covers in
    let each = sum_below_le (λ j. pick (w j) (reduced p lam j)) (λ j. count_of (mark f j) (reduced p lam j)) (length p.items)
    (λ j below. place_le (mark f j) (w j) (reduced p lam j) (goes.chosen j) (goes.stranger j) (goes.left j)) in
    let sum = lines_and_places p f lam in
    omega (arith, ints, scale, picks, whole, covered, each, sum)

-- a bound end holds its bound
pub closes_keeps : (p : Clearing) (f : List Mark) (u : ℕ) (lam : List (ℕ × ℕ)) → closes p u lam f ≡ true → AtMost p f u
unfolding closes
closes_keeps p f u lam told = record {
  most = (λ w covers goes.
      let weak = weak_by p f (multiplier lam) w covers goes in
      below (worth_of p w) (sum_of p f (multiplier lam)) u told weak);
}
  where
    less : (a b : ℤ) → lt_z a b ≡ true → a <ℤ b
    less a b told = grind (arith, ints)

    below : (v s : ℤ) (u : ℕ) → lt_z s (pos (4096 * (u + 1))) ≡ true → (pos 4096 *ℤ v) ≤ℤ s → v ≤ℤ pos u
    below v s u told weak =
        let under : s <ℤ pos (4096 * (u + 1)) = less s (pos (4096 * (u + 1))) told in
        omega (arith, ints, under, weak)
