use Rattle.std.proofs.Common.{◌≡◌, true, false, inl, inr, ℕ, ◌+◌, ◌<◌, ◌^◌, ℤ, pos, ◌+ℤ◌, ◌-ℤ◌, List, length, take, get_or, set, eqb, ap, sym, ◌∙◌, arith}
use Rattle.std.proofs.lemmas.Int.{ints}
use Rattle.std.proofs.lemmas.Bool.Decides.{eqb_tells}
use Rattle.std.proofs.lemmas.List.{get_or-set_same, get_or-set_other}
use Rattle.dali_problem.specs.declared.columns.Touch.{Touch}
use Rattle.dali_problem.specs.declared.mark.Mark.{Mark}
use Rattle.dali_problem.specs.Sums.{sum_over, pick}
use Rattle.dali_problem.specs.Limits.{Within}
use Rattle.dali_problem.proofs.IntegerLaws.{mul_add}
use Rattle.dali_problem.proofs.SumLaws.{sum_over_more}
use Rattle.dali_lagrange.specs.Bound.{count_of}
use Rattle.dali_lagrange.specs.Touched.{at_place, shifted, reduced_in}
use Rattle.dali_lagrange.proofs.Sizes.{product_within, counted_small}

-- a shift of a value
pub shifted_small : (m : ℕ) (z by a : ℤ) → Within m z → Within (2 ^ 44) by → Within (2 ^ 58) a → Within (m + 2 ^ 102) (shifted z by a)
shifted_small m z by a value rise amount =
    let small = product_within (2 ^ 44) (2 ^ 58) by a rise amount in
    record { low = omega (arith, ints, value.low, small.low); high = omega (arith, ints, value.high, small.high) }

pub wide : (z by a y : ℤ) → Within (2 ^ 103) z → Within (2 ^ 44) by → Within (2 ^ 58) a → y ≡ shifted z by a → Within (2 ^ 125) y
wide z by a y value rise amount is =
    let small = shifted_small (2 ^ 103) z by a value rise amount in
    record { low = omega (arith, ints, is, small.low); high = omega (arith, ints, is, small.high) }

pub at_most_shifted : (m : Mark) (t z by a y u : ℤ) → Within (2 ^ 120) t → Within (2 ^ 103) z → Within (2 ^ 44) by → Within (2 ^ 58) a →
    y ≡ shifted z by a → u ≡ t +ℤ count_of m y → Within (2 ^ 125) u
at_most_shifted m t z by a y u total value rise amount is new =
    let small = shifted_small (2 ^ 103) z by a value rise amount in
    let same : count_of m y ≡ count_of m (shifted z by a) = ap (count_of m) is in
    let part = counted_small (2 ^ 103 + 2 ^ 102) m (shifted z by a) small in
    record { low = omega (arith, ints, new, same, part.low, total.low); high = omega (arith, ints, new, same, part.high, total.high) }

-- how much more one place counts
pub rise_small : (m : Mark) (z from to a : ℤ) → Within (2 ^ 103) z → Within (2 ^ 44) from → Within (2 ^ 44) to → Within (2 ^ 58) a →
    Within (2 ^ 105) (count_of m (shifted z to a) -ℤ count_of m (shifted z from a))
rise_small m z from to a value down up amount =
    let first = counted_small (2 ^ 103 + 2 ^ 102) m (shifted z to a) (shifted_small (2 ^ 103) z to a value up amount) in
    let second = counted_small (2 ^ 103 + 2 ^ 102) m (shifted z from a) (shifted_small (2 ^ 103) z from a value down amount) in
    record { low = omega (arith, ints, first.low, second.high); high = omega (arith, ints, first.high, second.low) }

shift_more : (z by a b : ℤ) → shifted (shifted z by a) by b ≡ shifted z by (a +ℤ b)
shift_more z by a b = omega (arith, ints, mul_add by a b)

at_same : (t : Touch) (j : ℕ) → eqb t.place j ≡ true → at_place j t ≡ t.amount
at_same t j same = ap (λ b. pick b t.amount) same

at_other : (t : Touch) (j : ℕ) → eqb t.place j ≡ false → at_place j t ≡ pos 0
at_other t j other = ap (λ b. pick b t.amount) other

shift_none : (z by : ℤ) → shifted z by (pos 0) ≡ z
shift_none z by = grind (arith, ints)

-- one touch more
pub shift_step : (start values : List ℤ) (ts : List Touch) (i : ℕ) (d t : Touch) (v by : ℤ) → i < length ts → t ≡ get_or ts i d →
    v ≡ shifted (reduced_in values t.place) by t.amount →
    ((j : ℕ) → j < length values → reduced_in values j ≡ shifted (reduced_in start j) by (sum_over (at_place j) (take i ts))) →
    (j : ℕ) → j < length values →
    reduced_in (set values t.place v) j ≡ shifted (reduced_in start j) by (sum_over (at_place j) (take (i + 1) ts))
shift_step start values ts i d t v by within read new before j inside =
    let more : sum_over (at_place j) (take (i + 1) ts) ≡ sum_over (at_place j) (take i ts) +ℤ at_place j t =
    sum_over_more (at_place j) ts i d within ∙ ap (λ (u : Touch). sum_over (at_place j) (take i ts) +ℤ at_place j u) (sym read) in
    let was = before j inside in
    let step : shifted (reduced_in values j) by (at_place j t) ≡ shifted (reduced_in start j) by (sum_over (at_place j) (take (i + 1) ts)) =
    ap (λ z. shifted z by (at_place j t)) was ∙ shift_more (reduced_in start j) by (sum_over (at_place j) (take i ts)) (at_place j t)
    ∙ ap (shifted (reduced_in start j) by) (sym more) in
    elim (eqb_tells t.place j) as (λ _. reduced_in (set values t.place v) j ≡ shifted (reduced_in start j) by (sum_over (at_place j) (take (i + 1) ts))) [
      | inl same ↦
          ap (λ n. reduced_in (set values n v) j) same.1
          ∙ get_or-set_same values j v (pos 0) inside
          ∙ new
          ∙ ap (λ n. shifted (reduced_in values n) by t.amount) same.1
          ∙ ap (shifted (reduced_in values j) by) (sym (at_same t j same.0))
          ∙ step
      | inr other ↦
          get_or-set_other values t.place j v (pos 0) (λ q. other.1 (sym q))
          ∙ sym (shift_none (reduced_in values j) by)
          ∙ ap (shifted (reduced_in values j) by) (sym (at_other t j other.0))
          ∙ step
    ]
