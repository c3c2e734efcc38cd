use Rattle.std.proofs.Common.{◌≡◌, ℕ, zero, suc, ◌^◌, ◌<◌, ◌*ℤ◌, ◌+ℤ◌, pos, Bool, true, List, [], ◌∷◌, length, get_or, map, ltb, leb, refl, ap, ◌∙◌, arith}
use Rattle.std.specs.List.{All, AllPairs, list_all}
use Rattle.std.specs.Int.{int_max}
use Rattle.std.proofs.lemmas.Bool.{and_parts, ltb-true, leb-true}
use Rattle.std.proofs.lemmas.Bool.Decides.{Decides-by_and}
use Rattle.std.proofs.lemmas.List.Kept.{AllPairs-cons}
use Rattle.dali_problem.specs.declared.mark.Mark.{Mark}
use Rattle.dali_problem.specs.Sums.{sum_below, pick}
use Rattle.dali_problem.specs.Clearing.{Clearing, worth, effect}
use Rattle.dali_problem.specs.Partial.{mark, is_chosen, is_undecided, held}
use Rattle.dali_problem.proofs.SumLaws.{sum_below_same}
use Rattle.dali_tree.specs.Fits.{is_rising}
use Rattle.dali_tree.specs.Range.{multiplier_in_range, lam_in_range}
use Rattle.dali_lagrange.specs.Bound.{reduced, sum_of}
use Rattle.dali_lagrange.specs.Multipliers.{AreMultipliers}

-- what a test tells of each element
pub each_of : {X : Type 0} (test : X → Bool) (xs : List X) → list_all test xs ≡ true → All (λ x. test x ≡ true) xs
each_of test xs told =
    (Decides-by_and test (λ x. test x ≡ true) (list_all test) (λ x. (λ t. t, λ t. t)) refl (λ _ _. refl) xs).0 told

lines_rise : (lam : List (ℕ × ℕ)) → is_rising (map (λ m. m.0) lam) ≡ true → AllPairs (λ (a b : ℕ × ℕ). a.0 < b.0) lam
lines_rise [] told = λ i j d before within. absurd (omega arith)
lines_rise (m ∷ lam) told =
    let parts = and_parts (list_all (ltb m.0) (map (λ n. n.0) lam)) (is_rising (map (λ n. n.0) lam)) told in
    AllPairs-cons (λ (a b : ℕ × ℕ). a.0 < b.0) m lam (above m.0 lam parts.0) (lines_rise lam parts.1)
  where
    above : (l : ℕ) (lam : List (ℕ × ℕ)) → list_all (ltb l) (map (λ n. n.0) lam) ≡ true → All (λ (b : ℕ × ℕ). l < b.0) lam
    above l [] told k d below = absurd (omega arith)
    above l (m ∷ lam) told zero d below = ltb-true l m.0 (and_parts (ltb l m.0) (list_all (ltb l) (map (λ n. n.0) lam)) told).0
    above l (m ∷ lam) told (suc k) d below =
        above l lam (and_parts (ltb l m.0) (list_all (ltb l) (map (λ n. n.0) lam)) told).1 k d (omega arith)

-- multipliers in range are multipliers of a point
pub multipliers_of : (n : ℕ) (lam : List (ℕ × ℕ)) → lam_in_range n lam ≡ true → AreMultipliers n lam
multipliers_of n lam told =
    let parts = and_parts (list_all (multiplier_in_range n) lam) (is_rising (map (λ m. m.0) lam)) told in
    let each = each_of (multiplier_in_range n) lam parts.0 in
    record {
      rising = lines_rise lam parts.1;
      in_range = (λ k d below. ltb-true (get_or lam k d).0 n (one n (get_or lam k d) (each k d below)).0);
      bounded = (λ k d below. leb-true (get_or lam k d).1 (2 ^ 44) (one n (get_or lam k d) (each k d below)).1);
    }
  where
    one : (n : ℕ) (m : ℕ × ℕ) → multiplier_in_range n m ≡ true → (ltb m.0 n ≡ true) × (leb m.1 (2 ^ 44) ≡ true)
    one n m told =
        and_parts (ltb m.0 n) (leb m.1 (2 ^ 44)) told

-- the Sum asks for the multipliers of the problem's lines alone
pub reduced_at : (p : Clearing) (lam mu : ℕ → ℕ) (j : ℕ) → ((l : ℕ) → l < length p.lines → lam l ≡ mu l) → reduced p lam j ≡ reduced p mu j
reduced_at p lam mu j same = ap (λ z. pos 4096 *ℤ pos (worth p j) +ℤ z)
    (sum_below_same (λ l. pos (lam l) *ℤ effect p j l) (λ l. pos (mu l) *ℤ effect p j l) (length p.lines)
    (λ l below. ap (λ m. pos m *ℤ effect p j l) (same l below)))

pub sum_at : (p : Clearing) (f : List Mark) (lam mu : ℕ → ℕ) → ((l : ℕ) → l < length p.lines → lam l ≡ mu l) → sum_of p f lam ≡ sum_of p f mu
unfolding sum_of
sum_at p f lam mu same =
    let lines = sum_below_same (λ l. pos (lam l) *ℤ held p f l) (λ l. pos (mu l) *ℤ held p f l) (length p.lines)
    (λ l below. ap (λ m. pos m *ℤ held p f l) (same l below)) in
    let places = sum_below_same (λ j. pick (is_undecided (mark f j)) (int_max (pos 0) (reduced p lam j)))
    (λ j. pick (is_undecided (mark f j)) (int_max (pos 0) (reduced p mu j))) (length p.items)
    (λ j below. ap (λ z. pick (is_undecided (mark f j)) (int_max (pos 0) z)) (reduced_at p lam mu j same)) in
    ap (λ z. pos 4096 *ℤ sum_below (λ j. pick (is_chosen (mark f j)) (pos (worth p j))) (length p.items) +ℤ z
    +ℤ sum_below (λ j. pick (is_undecided (mark f j)) (int_max (pos 0) (reduced p lam j))) (length p.items)) lines
    ∙ ap (λ z. pos 4096 *ℤ sum_below (λ j. pick (is_chosen (mark f j)) (pos (worth p j))) (length p.items)
    +ℤ sum_below (λ l. pos (mu l) *ℤ held p f l) (length p.lines) +ℤ z) places
