use Rattle.std.proofs.Common.{◌≡◌, inl, inr, ℕ, ◌<◌, ℤ, pos, ◌+ℤ◌, ◌≤ℤ◌, Bool, true, false, ◌&&◌, ◌||◌, not, List, length, set, refl, ap, sym, ◌∙◌, arith}
use Rattle.std.specs.Int.{int_max, int_min}
use Rattle.std.proofs.lemmas.Bool.{cases_eq}
use Rattle.std.proofs.lemmas.Int.{ints, clamps}
use Rattle.std.proofs.lemmas.List.{get_or-set_same, get_or-set_other, length-set}
use Rattle.dali_problem.specs.declared.mark.Mark.{Mark}
use Rattle.dali_problem.specs.declared.mark.Mark.TheVariants.{Stranger, Chosen, Left}
use Rattle.dali_problem.specs.Sums.{sum_below, pick}
use Rattle.dali_problem.specs.Clearing.{Clearing, balance, effect}
use Rattle.dali_problem.specs.Partial.{mark, is_chosen, is_undecided, held}
use Rattle.dali_problem.specs.Rules.{is_negative, credits, debits, is_short, is_barred, is_needed, is_covered, all_below, is_safe}
use Rattle.dali_problem.proofs.SumLaws.{sum_below_same, sum_below_zero}
use Rattle.dali_problem.proofs.SetLaws.{is_in}
use Rattle.dali_restrict.specs.Restriction.{old_of}
use Rattle.dali_restrict.proofs.Spread.{false_true, IsRise, old_same, old_below, old_in, sum_spread, all_spread, pick_zero}
use Rattle.dali_restrict.proofs.Renumber.{IsPart, balance_nonneg}

-- g is f with the old numbers: each place has its mark, and no other place is a member
pub record IsWide (n : ℕ) (places : List ℕ) (f g : List Mark) : Type 0 where
  pub inner : length f ≡ length places
  pub outer : length g ≡ n
  pub inside : (i : ℕ) → i < length places → mark g (old_of places i) ≡ mark f i
  pub outside : (j : ℕ) → is_in j places ≡ false → mark g j ≡ Stranger

pub wide_set : (n : ℕ) (places : List ℕ) (f g : List Mark) (i : ℕ) (m : Mark) → IsRise n places → i < length places → IsWide n places f g →
    IsWide n places (set f i m) (set g (old_of places i) m)
wide_set n places f g i m rise within wide = record {
  inner = length-set f i m ∙ wide.inner;
  outer = length-set g (old_of places i) m ∙ wide.outer;
  inside = (λ k below. elim (cases_eq k i) as (λ _. mark (set g (old_of places i) m) (old_of places k) ≡ mark (set f i m) k) [
    | inl here ↦
        ap (λ h. mark (set g (old_of places i) m) (old_of places h)) here
        ∙ get_or-set_same g (old_of places i) m Stranger (omega (arith, old_below n places i rise within, wide.outer))
        ∙ sym (ap (mark (set f i m)) here ∙ get_or-set_same f i m Stranger (omega (arith, within, wide.inner)))
    | inr other ↦
        get_or-set_other g (old_of places i) (old_of places k) m Stranger (λ same. other (old_same n places k i rise below within same))
        ∙ wide.inside k below ∙ sym (get_or-set_other f i k m Stranger other)
  ]);
  outside = (λ j out. get_or-set_other g (old_of places i) j m Stranger
      (λ same. false_true (sym out ∙ ap (λ x. is_in x places) same ∙ old_in places i within)) ∙ wide.outside j out);
}

-- a sum over the marks of one kind
pub marked_sum : (n : ℕ) (places : List ℕ) (f g : List Mark) (of : Mark → Bool) (a b : ℕ → ℤ) → IsRise n places → IsWide n places f g → of Stranger ≡ false →
    ((i : ℕ) → i < length places → a (old_of places i) ≡ b i) →
    sum_below (λ j. pick (of (mark g j)) (a j)) n ≡ sum_below (λ i. pick (of (mark f i)) (b i)) (length places)
marked_sum n places f g of a b rise wide none same =
    sum_spread (λ j. pick (of (mark g j)) (a j)) (λ i. pick (of (mark f i)) (b i)) n places rise
    (λ i below. ap (λ m. pick (of m) (a (old_of places i))) (wide.inside i below) ∙ ap (pick (of (mark f i))) (same i below))
    (λ j below out. ap (λ m. pick (of m) (a j)) (wide.outside j out) ∙ ap (λ t. pick t (a j)) none)

-- on a line that no place changes it is 0
marked_none : (n : ℕ) (places : List ℕ) (f g : List Mark) (of : Mark → Bool) (a : ℕ → ℤ) → IsRise n places → IsWide n places f g → of Stranger ≡ false →
    ((i : ℕ) → i < length places → a (old_of places i) ≡ pos 0) → sum_below (λ j. pick (of (mark g j)) (a j)) n ≡ pos 0
marked_none n places f g of a rise wide none same =
    marked_sum n places f g of a (λ _. pos 0) rise wide none same
    ∙ sum_below_same (λ i. pick (of (mark f i)) (pos 0)) (λ _. pos 0) (length places) (λ i below. pick_zero (of (mark f i)))
    ∙ sum_below_zero (length places)

-- what a line holds, and what it may get and lose
pub held_wide : (p q : Clearing) (places lines : List ℕ) (f g : List Mark) (k : ℕ) → IsPart p q places lines → IsWide (length p.items) places f g → k < length lines →
    held p g (old_of lines k) ≡ held q f k
held_wide p q places lines f g k part wide below =
    let sum = marked_sum (length p.items) places f g is_chosen (λ j. effect p j (old_of lines k)) (λ i. effect q i k) part.members wide refl
    (λ i within. sym (part.same_effect i k within below)) in
    ap (λ z. z +ℤ sum_below (λ j. pick (is_chosen (mark g j)) (effect p j (old_of lines k))) (length p.items)) (sym (part.same_balance k below))
    ∙ ap (λ z. balance q k +ℤ z) (sum ∙ ap (sum_below (λ i. pick (is_chosen (mark f i)) (effect q i k))) (sym part.items_size))

pub held_outside : (p q : Clearing) (places lines : List ℕ) (f g : List Mark) (l : ℕ) → IsPart p q places lines → IsWide (length p.items) places f g → is_in l lines ≡ false →
    held p g l ≡ balance p l
held_outside p q places lines f g l part wide out =
    let none = marked_none (length p.items) places f g is_chosen (λ j. effect p j l) part.members wide refl (λ i within. part.outside i l within out) in
    omega (arith, ints, none)

credits_wide : (p q : Clearing) (places lines : List ℕ) (f g : List Mark) (k : ℕ) → IsPart p q places lines → IsWide (length p.items) places f g → k < length lines →
    credits p g (old_of lines k) ≡ credits q f k
credits_wide p q places lines f g k part wide below =
    marked_sum (length p.items) places f g is_undecided (λ j. int_max (pos 0) (effect p j (old_of lines k))) (λ i. int_max (pos 0) (effect q i k)) part.members wide refl
    (λ i within. ap (int_max (pos 0)) (sym (part.same_effect i k within below)))
    ∙ ap (sum_below (λ i. pick (is_undecided (mark f i)) (int_max (pos 0) (effect q i k)))) (sym part.items_size)

debits_wide : (p q : Clearing) (places lines : List ℕ) (f g : List Mark) (k : ℕ) → IsPart p q places lines → IsWide (length p.items) places f g → k < length lines →
    debits p g (old_of lines k) ≡ debits q f k
debits_wide p q places lines f g k part wide below =
    marked_sum (length p.items) places f g is_undecided (λ j. int_min (pos 0) (effect p j (old_of lines k))) (λ i. int_min (pos 0) (effect q i k)) part.members wide refl
    (λ i within. ap (int_min (pos 0)) (sym (part.same_effect i k within below)))
    ∙ ap (sum_below (λ i. pick (is_undecided (mark f i)) (int_min (pos 0) (effect q i k)))) (sym part.items_size)

pub short_wide : (p q : Clearing) (places lines : List ℕ) (f g : List Mark) (k : ℕ) → IsPart p q places lines → IsWide (length p.items) places f g → k < length lines →
    is_short p g (old_of lines k) ≡ is_short q f k
short_wide p q places lines f g k part wide below =
    ap (λ z. is_negative (z +ℤ credits p g (old_of lines k))) (held_wide p q places lines f g k part wide below)
    ∙ ap (λ z. is_negative (held q f k +ℤ z)) (credits_wide p q places lines f g k part wide below)

-- a line that no place changes is never short
pub short_outside : (p q : Clearing) (places lines : List ℕ) (f g : List Mark) (l : ℕ) → IsPart p q places lines → IsWide (length p.items) places f g → is_in l lines ≡ false →
    is_short p g l ≡ false
short_outside p q places lines f g l part wide out =
    let h = held_outside p q places lines f g l part wide out in
    let zero_max : int_max (pos 0) (pos 0) ≡ pos 0 = omega (arith, ints, clamps) in
    let none : credits p g l ≡ pos 0 = marked_none (length p.items) places f g is_undecided (λ j. int_max (pos 0) (effect p j l)) part.members wide refl
    (λ i within. ap (int_max (pos 0)) (part.outside i l within out) ∙ zero_max) in
    let up : pos 0 ≤ℤ (held p g l +ℤ credits p g l) = omega (arith, ints, h, none, balance_nonneg p l) in
    not_negative (held p g l +ℤ credits p g l) up
  where
    not_negative : (z : ℤ) → pos 0 ≤ℤ z → is_negative z ≡ false
    not_negative z up = grind (arith, ints)

pub both : (a b c d : Bool) → a ≡ b → c ≡ d → (a && c) ≡ (b && d)
both a b c d first second = ap (λ x. x && c) first ∙ ap (λ x. b && x) second

-- the fix rules
pub undecided_wide : (n : ℕ) (places : List ℕ) (f g : List Mark) (i : ℕ) → IsWide n places f g → i < length places →
    is_undecided (mark g (old_of places i)) ≡ is_undecided (mark f i)
undecided_wide n places f g i wide within = ap is_undecided (wide.inside i within)

pub barred_wide : (p q : Clearing) (places lines : List ℕ) (f g : List Mark) (i k : ℕ) → IsPart p q places lines → IsWide (length p.items) places f g →
    i < length places → k < length lines → is_barred p g (old_of places i) (old_of lines k) ≡ is_barred q f i k
barred_wide p q places lines f g i k part wide within below =
    both (is_undecided (mark g (old_of places i))) (is_undecided (mark f i)) (is_short p (set g (old_of places i) Chosen) (old_of lines k)) (is_short q (set f i Chosen) k)
    (undecided_wide (length p.items) places f g i wide within)
    (short_wide p q places lines (set f i Chosen) (set g (old_of places i) Chosen) k part (wide_set (length p.items) places f g i Chosen part.members within wide) below)

pub needed_wide : (p q : Clearing) (places lines : List ℕ) (f g : List Mark) (i k : ℕ) → IsPart p q places lines → IsWide (length p.items) places f g →
    i < length places → k < length lines → is_needed p g (old_of places i) (old_of lines k) ≡ is_needed q f i k
needed_wide p q places lines f g i k part wide within below =
    both (is_undecided (mark g (old_of places i))) (is_undecided (mark f i)) (is_short p (set g (old_of places i) Left) (old_of lines k)) (is_short q (set f i Left) k)
    (undecided_wide (length p.items) places f g i wide within)
    (short_wide p q places lines (set f i Left) (set g (old_of places i) Left) k part (wide_set (length p.items) places f g i Left part.members within wide) below)

and_false : (b : Bool) → (b && false) ≡ false
and_false true = refl
and_false false = refl

pub barred_outside : (p q : Clearing) (places lines : List ℕ) (f g : List Mark) (i l : ℕ) → IsPart p q places lines → IsWide (length p.items) places f g →
    i < length places → is_in l lines ≡ false → is_barred p g (old_of places i) l ≡ false
barred_outside p q places lines f g i l part wide within out =
    ap (λ b. is_undecided (mark g (old_of places i)) && b)
    (short_outside p q places lines (set f i Chosen) (set g (old_of places i) Chosen) l part (wide_set (length p.items) places f g i Chosen part.members within wide) out)
    ∙ and_false (is_undecided (mark g (old_of places i)))

pub needed_outside : (p q : Clearing) (places lines : List ℕ) (f g : List Mark) (i l : ℕ) → IsPart p q places lines → IsWide (length p.items) places f g →
    i < length places → is_in l lines ≡ false → is_needed p g (old_of places i) l ≡ false
needed_outside p q places lines f g i l part wide within out =
    ap (λ b. is_undecided (mark g (old_of places i)) && b)
    (short_outside p q places lines (set f i Left) (set g (old_of places i) Left) l part (wide_set (length p.items) places f g i Left part.members within wide) out)
    ∙ and_false (is_undecided (mark g (old_of places i)))

covered_wide : (p q : Clearing) (places lines : List ℕ) (f g : List Mark) (k : ℕ) → IsPart p q places lines → IsWide (length p.items) places f g → k < length lines →
    is_covered p g (old_of lines k) ≡ is_covered q f k
covered_wide p q places lines f g k part wide below =
    ap (λ z. not (is_negative (z +ℤ debits p g (old_of lines k)))) (held_wide p q places lines f g k part wide below)
    ∙ ap (λ z. not (is_negative (held q f k +ℤ z))) (debits_wide p q places lines f g k part wide below)

pub safe_wide : (p q : Clearing) (places lines : List ℕ) (f g : List Mark) (i : ℕ) → IsPart p q places lines → IsWide (length p.items) places f g →
    i < length places → is_safe p g (old_of places i) ≡ is_safe q f i
safe_wide p q places lines f g i part wide within =
    both (is_undecided (mark g (old_of places i))) (is_undecided (mark f i))
    (all_below (λ l. not (is_negative (effect p (old_of places i) l)) || is_covered p g l) (length p.lines))
    (all_below (λ k. not (is_negative (effect q i k)) || is_covered q f k) (length q.lines))
    (undecided_wide (length p.items) places f g i wide within)
    (all_spread (λ l. not (is_negative (effect p (old_of places i) l)) || is_covered p g l) (λ k. not (is_negative (effect q i k)) || is_covered q f k)
    (length p.lines) lines part.changed
    (λ k below. ap (λ z. not (is_negative z) || is_covered p g (old_of lines k)) (sym (part.same_effect i k within below))
    ∙ ap (λ b. not (is_negative (effect q i k)) || b) (covered_wide p q places lines f g k part wide below))
    (λ l below out. ap (λ z. not (is_negative z) || is_covered p g l) (part.outside i l within out))
    ∙ ap (all_below (λ k. not (is_negative (effect q i k)) || is_covered q f k)) (sym part.lines_size))
