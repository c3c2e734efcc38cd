use Rattle.std.proofs.Common.{◌≡◌, ℕ, zero, suc, ◌+◌, ◌-◌, ◌*◌, ◌<◌, ◌≤◌, ◌^◌, ℤ, pos, ◌+ℤ◌, ◌*ℤ◌, ◌≤ℤ◌, Bool, true, false, List, length, take, refl, ap, sym, arith, add-one, sum_by}
use Rattle.std.specs.Int.{int_max}
use Rattle.std.proofs.lemmas.Int.{ints, clamps}
use Rattle.std.proofs.lemmas.List.Elements.{All-get_or}
use Rattle.std.proofs.lemmas.List.Sums.{sum_by_more, sum_by-take-le}
use Rattle.dali_problem.specs.declared.mark.Mark.{Mark}
use Rattle.dali_problem.specs.declared.row.LineRow.{LineRow}
use Rattle.dali_problem.specs.Sums.{sum_below, pick}
use Rattle.dali_problem.specs.Clearing.{Item, Clearing, no_line, no_item, balance, worth, effect, line_at, item_at}
use Rattle.dali_problem.specs.Limits.{Within, IsProblem}
use Rattle.dali_problem.specs.Partial.{mark, is_chosen, is_undecided}
use Rattle.dali_problem.proofs.SumLaws.{sum_below_within, sum_below_zero, sum_below_same}
use Rattle.dali_problem.proofs.Lines.{item_limits}
use Rattle.dali_lagrange.specs.Bound.{reduced, values_part, multipliers_part, undecided_part, ArePartsSmall}
use Rattle.dali_lagrange.proofs.Moved.{effects_weight}
use Rattle.dali_lagrange.proofs.Regroup.{sparse, regroup}
use Rattle.dali_lagrange.proofs.Sizes.{product_small}

pick_small : (k : ℕ) (b : Bool) (z : ℤ) → Within k z → Within k (pick b z)
pick_small k true z small = small
pick_small k false z small = record { low = omega (arith, ints); high = omega (arith, ints) }

-- the values of some of the first n places, together
record ValuesWithin (p : Clearing) (w : ℕ → Bool) (n : ℕ) : Type 0 where
  low : pos 0 ≤ℤ sum_below (λ j. pick (w j) (pos (worth p j))) n
  high : sum_below (λ j. pick (w j) (pos (worth p j))) n ≤ℤ pos (sum_by (λ (r : Item). r.value) (take n p.items))

pick_value : (b : Bool) (n : ℕ) → (pos 0 ≤ℤ pick b (pos n)) × (pick b (pos n) ≤ℤ pos n)
pick_value true n = (omega (arith, ints), omega (arith, ints))
pick_value false n = (omega (arith, ints), omega (arith, ints))

values_within : (p : Clearing) (w : ℕ → Bool) (n : ℕ) → n ≤ length p.items → ValuesWithin p w n
values_within p w zero short = record { low = omega (arith, ints); high = omega (arith, ints) }
values_within p w (suc n) short =
    let rest = values_within p w n (omega (arith, short)) in
    let last = pick_value (w n) (worth p n) in
    let more : sum_by (λ (r : Item). r.value) (take (n + 1) p.items) ≡ sum_by (λ (r : Item). r.value) (take n p.items) + worth p n =
    sum_by_more (λ (r : Item). r.value) p.items n no_item (omega (arith, short)) in
    let same : sum_by (λ (r : Item). r.value) (take (suc n) p.items) ≡ sum_by (λ (r : Item). r.value) (take (n + 1) p.items) =
    ap (λ k. sum_by (λ (r : Item). r.value) (take k p.items)) (sym (add-one n)) in
    record { low = omega (arith, ints, rest.low, last.0); high = omega (arith, ints, rest.high, last.1, more, same) }

values_small : (p : Clearing) (f : List Mark) → IsProblem p → Within (2 ^ 76 - 1) (values_part p f)
values_small p f limits =
    let some = values_within p (λ j. is_chosen (mark f j)) (length p.items) (omega arith) in
    let part = sum_by-take-le (λ (r : Item). r.value) p.items (length p.items) in
    record { low = omega (arith, ints, some.low); high = omega (arith, ints, some.high, part, limits.total) }

-- what the effects of a place are worth, on all lines
place_weight : (p : Clearing) (lam : ℕ → ℕ) (j : ℕ) → IsProblem p → ((l : ℕ) → lam l ≤ 2 ^ 44) → j < length p.items →
    Within (32 * (2 ^ 44 * (8 * 10 ^ 15))) (sum_below (λ l. pos (lam l) *ℤ effect p j l) (length p.lines))
place_weight p lam j limits bounded within =
    let item = item_limits p j limits within in
    let lines = sparse (λ l. pos (lam l)) (item_at p j).effects (length p.lines) item.effects.in_range in
    let weight = effects_weight (8 * 10 ^ 15) lam (item_at p j).effects bounded item.effects.bounded in
    let size : length (item_at p j).effects * (2 ^ 44 * (8 * 10 ^ 15)) ≤ 32 * (2 ^ 44 * (8 * 10 ^ 15)) = omega (arith, item.effects.size) in
    record { low = omega (arith, ints, lines, weight.low, size); high = omega (arith, ints, lines, weight.high, size) }

-- balances count by the line, and chosen effects by the place
multipliers_small : (p : Clearing) (f : List Mark) (lam : ℕ → ℕ) → IsProblem p → ((l : ℕ) → lam l ≤ 2 ^ 44) →
    Within (2 ^ 116 - 1) (multipliers_part p f lam)
multipliers_small p f lam limits bounded =
    let apart = regroup (λ j. is_chosen (mark f j)) (λ _. pos 0) (λ l. pos (lam l)) (balance p) (effect p) (length p.lines) (length p.items) in
    let none = sum_below_same (λ j. pick (is_chosen (mark f j)) (pos 0)) (λ _. pos 0) (length p.items) (λ j below. pick_zero (is_chosen (mark f j))) in
    let lines = sum_below_within (2 ^ 44 * 10 ^ 18) (λ l. pos (lam l) *ℤ balance p l) (length p.lines)
    (λ l below.
    let most : (line_at p l).balance ≤ 10 ^ 18 = All-get_or (λ (row : LineRow). row.balance ≤ 10 ^ 18) p.lines l no_line below limits.balances in
    product_small (lam l) (10 ^ 18) (balance p l) (bounded l) (record { low = omega (arith, ints); high = omega (arith, ints, most) })) in
    let places = sum_below_within (32 * (2 ^ 44 * (8 * 10 ^ 15)))
    (λ j. pick (is_chosen (mark f j)) (pos 0 +ℤ sum_below (λ l. pos (lam l) *ℤ effect p j l) (length p.lines))) (length p.items)
    (λ j below.
    let weight = place_weight p lam j limits bounded below in
    pick_small (32 * (2 ^ 44 * (8 * 10 ^ 15))) (is_chosen (mark f j)) (pos 0 +ℤ sum_below (λ l. pos (lam l) *ℤ effect p j l) (length p.lines))
    (record { low = omega (arith, ints, weight.low); high = omega (arith, ints, weight.high) })) in
    let many_lines : length p.lines * (2 ^ 44 * 10 ^ 18) ≤ 4096 * (2 ^ 44 * 10 ^ 18) = omega (arith, limits.lines) in
    let many_places : length p.items * (32 * (2 ^ 44 * (8 * 10 ^ 15))) ≤ 1024 * (32 * (2 ^ 44 * (8 * 10 ^ 15))) = omega (arith, limits.items) in
    let zeros = sum_below_zero (length p.items) in
    record {
      low = omega (arith, ints, apart, none, zeros, lines.low, places.low, many_lines, many_places);
      high = omega (arith, ints, apart, none, zeros, lines.high, places.high, many_lines, many_places);
    }
  where
    pick_zero : (b : Bool) → pick b (pos 0) ≡ pos 0
    pick_zero true = refl
    pick_zero false = refl

undecided_small : (p : Clearing) (f : List Mark) (lam : ℕ → ℕ) → IsProblem p → ((l : ℕ) → lam l ≤ 2 ^ 44) →
    Within (2 ^ 113 - 1) (undecided_part p f lam)
undecided_small p f lam limits bounded =
    let each = sum_below_within (32 * (2 ^ 44 * (8 * 10 ^ 15)) + 4096 * (128 * 10 ^ 15))
    (λ j. pick (is_undecided (mark f j)) (int_max (pos 0) (reduced p lam j))) (length p.items)
    (λ j below.
    let weight = place_weight p lam j limits bounded below in
    let item = item_limits p j limits below in
    let value : worth p j ≤ 128 * 10 ^ 15 = item.value_high in
    pick_small (32 * (2 ^ 44 * (8 * 10 ^ 15)) + 4096 * (128 * 10 ^ 15)) (is_undecided (mark f j)) (int_max (pos 0) (reduced p lam j))
    (record { low = omega (arith, ints, clamps, weight.low, value); high = omega (arith, ints, clamps, weight.high, value) })) in
    let many : length p.items * (32 * (2 ^ 44 * (8 * 10 ^ 15)) + 4096 * (128 * 10 ^ 15)) ≤ 1024 * (32 * (2 ^ 44 * (8 * 10 ^ 15)) + 4096 * (128 * 10 ^ 15)) =
    omega (arith, limits.items) in
    record { low = omega (arith, ints, each.low, many); high = omega (arith, ints, each.high, many) }

pub parts_small : (p : Clearing) (f : List Mark) (lam : ℕ → ℕ) → IsProblem p → ((l : ℕ) → lam l ≤ 2 ^ 44) → ArePartsSmall p f lam
parts_small p f lam limits bounded = record {
  values = values_small p f limits;
  multipliers = multipliers_small p f lam limits bounded;
  undecided = undecided_small p f lam limits bounded;
}
