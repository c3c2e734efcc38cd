use Rattle.std.proofs.Common.{◌≡◌, inl, inr, ℕ, zero, suc, ◌+◌, ◌^◌, ◌<◌, ℤ, pos, ◌+ℤ◌, ◌-ℤ◌, ◌*ℤ◌, ◌≤ℤ◌, Bool, true, false, ◌&&◌, ◌||◌, not, List, [], ◌∷◌, length, eqb, cond, refl, ap, sym, ◌∙◌, arith}
use Rattle.std.specs.Int.{int_max}
use Rattle.std.specs.Int.Signed.{lt_z, le_z}
use Rattle.std.specs.List.{All}
use Rattle.std.proofs.lemmas.Bool.Decides.{eqb_tells}
use Rattle.std.proofs.lemmas.Int.{ints}
use Rattle.std.proofs.lemmas.List.Elements.{All-head, All-tail}
use Rattle.dali_problem.specs.declared.mark.Mark.{Mark}
use Rattle.dali_problem.specs.Sums.{sum_below, pick}
use Rattle.dali_problem.specs.Clearing.{Clearing, worth, effect}
use Rattle.dali_problem.specs.Partial.{mark, is_chosen, is_undecided, held}
use Rattle.dali_problem.specs.Rules.{all_below}
use Rattle.dali_problem.proofs.IntegerLaws.{mul_nonneg}
use Rattle.dali_problem.proofs.SumLaws.{sum_below_le}
use Rattle.dali_problem.proofs.SetLaws.{is_in}
use Rattle.dali_lagrange.specs.Bound.{reduced, values_part, multipliers_part, undecided_part, sum_of}
use Rattle.dali_lagrange.specs.Multipliers.{multiplier}
use Rattle.dali_lagrange.specs.Settled.{changed, is_gain, is_still_at, is_settled}
use Rattle.dali_restrict.specs.Restriction.{old_of}
use Rattle.dali_restrict.specs.Widened.{wide_lam}
use Rattle.dali_restrict.proofs.Spread.{false_true, IsRise, old_eqb, old_in, sum_spread, all_spread, all_below_of}
use Rattle.dali_restrict.proofs.Renumber.{IsPart, balance_nonneg}
use Rattle.dali_restrict.proofs.Wide.{IsWide, marked_sum, held_wide, held_outside}

-- multipliers of the old lines: those of the new ones, and 0 elsewhere
pub record AreWide (lines : List ℕ) (mu lam : ℕ → ℕ) : Type 0 where
  pub inside : (k : ℕ) → k < length lines → lam (old_of lines k) ≡ mu k
  pub outside : (l : ℕ) → is_in l lines ≡ false → lam l ≡ 0

zero_left : (z : ℤ) → pos 0 *ℤ z ≡ pos 0
zero_left z = grind (arith, ints)

zero_right : (z : ℤ) → z *ℤ pos 0 ≡ pos 0
zero_right z = grind (arith, ints)

pub reduced_wide : (p q : Clearing) (places lines : List ℕ) (mu lam : ℕ → ℕ) (i : ℕ) → IsPart p q places lines →
    ((k : ℕ) → k < length lines → lam (old_of lines k) ≡ mu k) → i < length places →
    reduced p lam (old_of places i) ≡ reduced q mu i
reduced_wide p q places lines mu lam i part same within =
    ap (λ (v : ℕ). pos 4096 *ℤ pos v +ℤ sum_below (λ l. pos (lam l) *ℤ effect p (old_of places i) l) (length p.lines)) (sym (part.same_worth i within))
    ∙ ap (λ z. pos 4096 *ℤ pos (worth q i) +ℤ z)
    (sum_spread (λ l. pos (lam l) *ℤ effect p (old_of places i) l) (λ k. pos (mu k) *ℤ effect q i k) (length p.lines) lines part.changed
    (λ k below. ap (λ (m : ℕ). pos m *ℤ effect p (old_of places i) (old_of lines k)) (same k below) ∙ ap (λ z. pos (mu k) *ℤ z) (sym (part.same_effect i k within below)))
    (λ l below out. ap (λ z. pos (lam l) *ℤ z) (part.outside i l within out) ∙ zero_right (pos (lam l)))
    ∙ ap (sum_below (λ k. pos (mu k) *ℤ effect q i k)) (sym part.lines_size))

values_wide : (p q : Clearing) (places lines : List ℕ) (f g : List Mark) → IsPart p q places lines → IsWide (length p.items) places f g →
    values_part p g ≡ values_part q f
values_wide p q places lines f g part wide = ap (λ z. pos 4096 *ℤ z)
    (marked_sum (length p.items) places f g is_chosen (λ j. pos (worth p j)) (λ i. pos (worth q i)) part.members wide refl (λ i within. ap pos (sym (part.same_worth i within)))
    ∙ ap (sum_below (λ i. pick (is_chosen (mark f i)) (pos (worth q i)))) (sym part.items_size))

undecided_wide : (p q : Clearing) (places lines : List ℕ) (f g : List Mark) (mu lam : ℕ → ℕ) → IsPart p q places lines → IsWide (length p.items) places f g →
    ((k : ℕ) → k < length lines → lam (old_of lines k) ≡ mu k) → undecided_part p g lam ≡ undecided_part q f mu
undecided_wide p q places lines f g mu lam part wide same =
    marked_sum (length p.items) places f g is_undecided (λ j. int_max (pos 0) (reduced p lam j)) (λ i. int_max (pos 0) (reduced q mu i)) part.members wide refl
    (λ i within. ap (int_max (pos 0)) (reduced_wide p q places lines mu lam i part same within))
    ∙ ap (sum_below (λ i. pick (is_undecided (mark f i)) (int_max (pos 0) (reduced q mu i)))) (sym part.items_size)

multipliers_wide : (p q : Clearing) (places lines : List ℕ) (f g : List Mark) (mu lam : ℕ → ℕ) → IsPart p q places lines → IsWide (length p.items) places f g →
    AreWide lines mu lam → multipliers_part p g lam ≡ multipliers_part q f mu
multipliers_wide p q places lines f g mu lam part wide are =
    sum_spread (λ l. pos (lam l) *ℤ held p g l) (λ k. pos (mu k) *ℤ held q f k) (length p.lines) lines part.changed
    (λ k below. ap (λ (m : ℕ). pos m *ℤ held p g (old_of lines k)) (are.inside k below) ∙ ap (λ z. pos (mu k) *ℤ z) (held_wide p q places lines f g k part wide below))
    (λ l below out. ap (λ (m : ℕ). pos m *ℤ held p g l) (are.outside l out) ∙ zero_left (held p g l))
    ∙ ap (sum_below (λ k. pos (mu k) *ℤ held q f k)) (sym part.lines_size)

-- the Sum
pub sum_wide : (p q : Clearing) (places lines : List ℕ) (f g : List Mark) (mu lam : ℕ → ℕ) → IsPart p q places lines → IsWide (length p.items) places f g →
    AreWide lines mu lam → sum_of p g lam ≡ sum_of q f mu
unfolding sum_of
sum_wide p q places lines f g mu lam part wide are =
    ap (λ z. z +ℤ multipliers_part p g lam +ℤ undecided_part p g lam) (values_wide p q places lines f g part wide)
    ∙ ap (λ z. values_part q f +ℤ z +ℤ undecided_part p g lam) (multipliers_wide p q places lines f g mu lam part wide are)
    ∙ ap (λ z. values_part q f +ℤ multipliers_part q f mu +ℤ z) (undecided_wide p q places lines f g mu lam part wide are.inside)

pub zeros_wide : (lines : List ℕ) → AreWide lines (λ _. 0) (λ _. 0)
zeros_wide lines = record { inside = (λ k below. refl); outside = (λ l out. refl) }

changed_wide : (n : ℕ) (lines : List ℕ) (mu lam : ℕ → ℕ) (k x : ℕ) → IsRise n lines → k < length lines → AreWide lines mu lam →
    AreWide lines (changed mu k x) (changed lam (old_of lines k) x)
changed_wide n lines mu lam k x rise within are = record {
  inside = (λ i below.
      ap (λ b. cond b x (lam (old_of lines i))) (old_eqb n lines i k rise below within) ∙ ap (λ (m : ℕ). cond (eqb i k) x m) (are.inside i below));
  outside = (λ l out. elim (eqb_tells l (old_of lines k)) as (λ _. changed lam (old_of lines k) x l ≡ 0) [
    | inl here ↦ absurd (false_true (sym out ∙ ap (λ m. is_in m lines) here.1 ∙ old_in lines k within))
    | inr other ↦ ap (λ b. cond b x (lam l)) other.0 ∙ are.outside l out
  ]);
}

-- a multiplier of a line that no place changes only raises the Sum
raised : (p q : Clearing) (places lines : List ℕ) (f g : List Mark) (mu lam : ℕ → ℕ) (l x : ℕ) → IsPart p q places lines → IsWide (length p.items) places f g →
    AreWide lines mu lam → is_in l lines ≡ false → sum_of p g lam ≤ℤ sum_of p g (changed lam l x)
unfolding sum_of
raised p q places lines f g mu lam l x part wide are out =
    let still : (k : ℕ) → k < length lines → changed lam l x (old_of lines k) ≡ mu k = λ k below.
    elim (eqb_tells (old_of lines k) l) as (λ _. changed lam l x (old_of lines k) ≡ mu k) [
      | inl here ↦ absurd (false_true (sym out ∙ ap (λ m. is_in m lines) (sym here.1) ∙ old_in lines k below))
      | inr other ↦ ap (λ b. cond b x (lam (old_of lines k))) other.0 ∙ are.inside k below
    ] in
    let same : undecided_part p g (changed lam l x) ≡ undecided_part p g lam =
    undecided_wide p q places lines f g mu (changed lam l x) part wide still ∙ sym (undecided_wide p q places lines f g mu lam part wide are.inside) in
    let up : multipliers_part p g lam ≤ℤ multipliers_part p g (changed lam l x) =
    sum_below_le (λ m. pos (lam m) *ℤ held p g m) (λ m. pos (changed lam l x m) *ℤ held p g m) (length p.lines) (λ m below. at m) in
    omega (arith, ints, same, up)
  where
    at : (m : ℕ) → (pos (lam m) *ℤ held p g m) ≤ℤ (pos (changed lam l x m) *ℤ held p g m)
    at m = elim (eqb_tells m l) as (λ _. (pos (lam m) *ℤ held p g m) ≤ℤ (pos (changed lam l x m) *ℤ held p g m)) [
      | inl here ↦
          let quiet : is_in m lines ≡ false = ap (λ i. is_in i lines) here.1 ∙ out in
          let none : pos (lam m) *ℤ held p g m ≡ pos 0 = ap (λ (i : ℕ). pos i *ℤ held p g m) (are.outside m quiet) ∙ zero_left (held p g m) in
          let bal = held_outside p q places lines f g m part wide quiet in
          let high : pos 0 ≤ℤ held p g m = omega (arith, ints, bal, balance_nonneg p m) in
          let factor : pos 0 ≤ℤ pos (changed lam l x m) = omega (arith, ints) in
          let more : pos 0 ≤ℤ (pos (changed lam l x m) *ℤ held p g m) = mul_nonneg (pos (changed lam l x m)) (held p g m) factor high in
          omega (arith, ints, none, more)
      | inr other ↦
          let equal : pos (changed lam l x m) *ℤ held p g m ≡ pos (lam m) *ℤ held p g m = ap (λ b. pos (cond b x (lam m)) *ℤ held p g m) other.0 in
          omega (arith, ints, equal)
    ]

no_gain : (old new : ℤ) → old ≤ℤ new → not (is_gain old new) ≡ true
no_gain old new up = ap not (none (lt_z new old) (le_z old (pos 1024 *ℤ (old -ℤ new))) (not_less old new up))
  where
    not_less : (old new : ℤ) → old ≤ℤ new → lt_z new old ≡ false
    not_less old new up = grind (arith, ints)

    none : (a b : Bool) → a ≡ false → (a && b) ≡ false
    none true b off = absurd (false_true (sym off))
    none false b off = refl

still_wide : (p q : Clearing) (places lines : List ℕ) (f g : List Mark) (mu lam : ℕ → ℕ) (k : ℕ) → IsPart p q places lines → IsWide (length p.items) places f g →
    AreWide lines mu lam → k < length lines → is_still_at p g lam (old_of lines k) ≡ is_still_at q f mu k
unfolding is_still_at
still_wide p q places lines f g mu lam k part wide are below =
    all_same (λ x. not (is_gain (sum_of p g lam) (sum_of p g (changed lam (old_of lines k) x)))) (λ x. not (is_gain (sum_of q f mu) (sum_of q f (changed mu k x)))) (2 ^ 44 + 1)
    (λ x. ap (λ z. not (is_gain z (sum_of p g (changed lam (old_of lines k) x)))) (sum_wide p q places lines f g mu lam part wide are)
    ∙ ap (λ z. not (is_gain (sum_of q f mu) z))
    (sum_wide p q places lines f g (changed mu k x) (changed lam (old_of lines k) x) part wide (changed_wide (length p.lines) lines mu lam k x part.changed below are)))
  where
    all_same : (s t : ℕ → Bool) (n : ℕ) → ((x : ℕ) → s x ≡ t x) → all_below s n ≡ all_below t n
    all_same s t zero same = refl
    all_same s t (suc n) same = ap (λ b. b && all_below s n) (same n) ∙ ap (λ b. t n && b) (all_same s t n same)

still_outside : (p q : Clearing) (places lines : List ℕ) (f g : List Mark) (mu lam : ℕ → ℕ) (l : ℕ) → IsPart p q places lines → IsWide (length p.items) places f g →
    AreWide lines mu lam → is_in l lines ≡ false → is_still_at p g lam l ≡ true
unfolding is_still_at
still_outside p q places lines f g mu lam l part wide are out =
    all_below_of (λ x. not (is_gain (sum_of p g lam) (sum_of p g (changed lam l x)))) (2 ^ 44 + 1)
    (λ x below. no_gain (sum_of p g lam) (sum_of p g (changed lam l x)) (raised p q places lines f g mu lam l x part wide are out))

pub settled_wide : (p q : Clearing) (places lines : List ℕ) (f g : List Mark) (mu lam : ℕ → ℕ) → IsPart p q places lines → IsWide (length p.items) places f g →
    AreWide lines mu lam → is_settled p g lam ≡ is_settled q f mu
unfolding is_settled
settled_wide p q places lines f g mu lam part wide are =
    ap (λ z. le_z z (sum_of p g (λ _. 0)) && (lt_z z (pos 4096) || all_below (is_still_at p g lam) (length p.lines))) (sum_wide p q places lines f g mu lam part wide are)
    ∙ ap (λ z. le_z (sum_of q f mu) z && (lt_z (sum_of q f mu) (pos 4096) || all_below (is_still_at p g lam) (length p.lines)))
    (sum_wide p q places lines f g (λ _. 0) (λ _. 0) part wide (zeros_wide lines))
    ∙ ap (λ b. le_z (sum_of q f mu) (sum_of q f (λ _. 0)) && (lt_z (sum_of q f mu) (pos 4096) || b))
    (all_spread (is_still_at p g lam) (is_still_at q f mu) (length p.lines) lines part.changed
    (λ k below. still_wide p q places lines f g mu lam k part wide are below)
    (λ l below out. still_outside p q places lines f g mu lam l part wide are out)
    ∙ ap (all_below (is_still_at q f mu)) (sym part.lines_size))

-- multipliers on new lines, with the old numbers of these
pub lam_wide : (n : ℕ) (lines : List ℕ) (lam : List (ℕ × ℕ)) → IsRise n lines → All (λ (m : ℕ × ℕ). m.0 < length lines) lam →
    AreWide lines (multiplier lam) (multiplier (wide_lam lines lam))
lam_wide n lines [] rise within = zeros_wide lines
lam_wide n lines (m ∷ lam) rise within =
    let first : m.0 < length lines = All-head (λ (x : ℕ × ℕ). x.0 < length lines) m lam within in
    let rest = lam_wide n lines lam rise (All-tail (λ (x : ℕ × ℕ). x.0 < length lines) m lam within) in
    record {
      inside = (λ k below.
          ap (λ b. cond b m.1 (multiplier (wide_lam lines lam) (old_of lines k))) (old_eqb n lines m.0 k rise first below)
          ∙ ap (λ (x : ℕ). cond (eqb m.0 k) m.1 x) (rest.inside k below));
      outside = (λ l out. elim (eqb_tells (old_of lines m.0) l) as (λ _. multiplier (wide_lam lines (m ∷ lam)) l ≡ 0) [
        | inl here ↦ absurd (false_true (sym out ∙ ap (λ i. is_in i lines) (sym here.1) ∙ old_in lines m.0 first))
        | inr other ↦ ap (λ b. cond b m.1 (multiplier (wide_lam lines lam) l)) other.0 ∙ rest.outside l out
      ]);
    }
