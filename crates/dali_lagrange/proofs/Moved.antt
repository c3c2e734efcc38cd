use Rattle.std.proofs.Common.{◌≡◌, ℕ, suc, ◌+◌, ◌-◌, ◌*◌, ◌<◌, ◌≤◌, ◌^◌, ℤ, pos, ◌+ℤ◌, ◌-ℤ◌, ◌*ℤ◌, List, [], ◌∷◌, length, get_or, set, ap, sym, ◌∙◌, arith}
use Rattle.std.specs.List.{All}
use Rattle.std.proofs.lemmas.Int.{ints}
use Rattle.std.proofs.lemmas.List.{get_or-set_same, get_or-set_other}
use Rattle.std.proofs.lemmas.List.Elements.{All-head, All-tail}
use Rattle.dali_problem.specs.declared.mark.Mark.{Mark}
use Rattle.dali_problem.specs.declared.row.Effect.{Effect}
use Rattle.dali_problem.specs.Sums.{sum_below, sum_over}
use Rattle.dali_problem.specs.Clearing.{Clearing, balance, worth, effect, item_at}
use Rattle.dali_problem.specs.Limits.{Within, IsProblem}
use Rattle.dali_problem.specs.Partial.{mark}
use Rattle.dali_problem.specs.Touches.{touches}
use Rattle.dali_problem.proofs.SumLaws.{sum_below_same, sum_below_sub, sum_below_change, sum_below_within}
use Rattle.dali_problem.proofs.Lines.{item_limits, balance_small, widen}
use Rattle.dali_lagrange.specs.Best.{sum_with}
use Rattle.dali_lagrange.specs.Bound.{reduced, sum_of, count_of}
use Rattle.dali_lagrange.specs.Touched.{shifted, reduced_in, touch_rise}
use Rattle.dali_lagrange.proofs.Regroup.{sparse}
use Rattle.dali_lagrange.proofs.Sizes.{product_small, counted_small, mul_less}
use Rattle.dali_lagrange.proofs.Touching.{sum_touches}
use Rattle.dali_lagrange.proofs.Whole.{lines_and_places}

-- multipliers that are equal on the lines of the problem
pub reduced_same : (p : Clearing) (lam mu : ℕ → ℕ) (j : ℕ) → ((l : ℕ) → l < length p.lines → lam l ≡ mu l) → reduced p lam j ≡ reduced p mu j
reduced_same p lam mu j same =
    ap (λ z. pos 4096 *ℤ pos (worth p j) +ℤ z)
    (sum_below_same (λ l. pos (lam l) *ℤ effect p j l) (λ l. pos (mu l) *ℤ effect p j l) (length p.lines)
    (λ l below. ap (λ m. pos m *ℤ effect p j l) (same l below)))

pub sum_same : (p : Clearing) (f : List Mark) (lam mu : ℕ → ℕ) → ((l : ℕ) → l < length p.lines → lam l ≡ mu l) → sum_of p f lam ≡ sum_of p f mu
sum_same p f lam mu same =
    let lines = sum_below_same (λ l. pos (lam l) *ℤ balance p l) (λ l. pos (mu l) *ℤ balance p l) (length p.lines)
    (λ l below. ap (λ m. pos m *ℤ balance p l) (same l below)) in
    let places = sum_below_same (λ j. count_of (mark f j) (reduced p lam j)) (λ j. count_of (mark f j) (reduced p mu j)) (length p.items)
    (λ j below. ap (count_of (mark f j)) (reduced_same p lam mu j same)) in
    omega (arith, ints, lines, places, lines_and_places p f lam, lines_and_places p f mu)

-- one line's term after its multiplier is set
term_change : (point : List ℕ) (l x : ℕ) (g : ℕ → ℤ) (n : ℕ) → l < length point → l < n →
    sum_below (λ k. pos (get_or (set point l x) k 0) *ℤ g k) n
    ≡ sum_below (λ k. pos (get_or point k 0) *ℤ g k) n +ℤ (pos x -ℤ pos (get_or point l 0)) *ℤ g l
term_change point l x g n there within =
    let change = sum_below_change (λ k. pos (get_or point k 0) *ℤ g k) (λ k. pos (get_or (set point l x) k 0) *ℤ g k) n l within
    (λ k below off. ap (λ m. pos m *ℤ g k) (get_or-set_other point l k x 0 off)) in
    let here : pos (get_or (set point l x) l 0) *ℤ g l ≡ pos x *ℤ g l = ap (λ m. pos m *ℤ g l) (get_or-set_same point l x 0 there) in
    omega (arith, ints, change, here, mul_less (pos x) (pos (get_or point l 0)) (g l))

-- a reduced value after the multiplier of a line is set
pub reduced_set : (p : Clearing) (point : List ℕ) (l x j : ℕ) → length point ≡ length p.lines → l < length p.lines →
    reduced p (λ k. get_or (set point l x) k 0) j
    ≡ shifted (reduced p (λ k. get_or point k 0) j) (pos x -ℤ pos (get_or point l 0)) (effect p j l)
reduced_set p point l x j size within =
    let change = term_change point l x (effect p j) (length p.lines) (omega (arith, size, within)) within in
    omega (arith, ints, change)

counted_shift : (m : Mark) (r from to : ℤ) → count_of m (shifted r to (pos 0)) -ℤ count_of m (shifted r from (pos 0)) ≡ pos 0
counted_shift m r from to =
    let a : shifted r to (pos 0) ≡ r = grind (arith, ints) in
    let b : shifted r from (pos 0) ≡ r = grind (arith, ints) in
    let c : count_of m (shifted r to (pos 0)) ≡ count_of m r = ap (count_of m) a in
    let d : count_of m (shifted r from (pos 0)) ≡ count_of m r = ap (count_of m) b in
    omega (arith, ints, c, d)

-- how the Sum changes as the multiplier of a line goes from one number to another
pub sum_moved : (p : Clearing) (f : List Mark) (point : List ℕ) (values : List ℤ) (l from to : ℕ) →
    length point ≡ length p.lines → l < length p.lines →
    ((j : ℕ) → j < length p.items → reduced_in values j ≡ reduced p (λ k. get_or point k 0) j) →
    (pos to -ℤ pos from) *ℤ balance p l
    +ℤ sum_over (touch_rise f values (pos from -ℤ pos (get_or point l 0)) (pos to -ℤ pos (get_or point l 0))) (touches p l)
    ≡ sum_with p f point l to -ℤ sum_with p f point l from
unfolding sum_with
sum_moved p f point values l from to size within kept =
    let now : ℕ = get_or point l 0 in
    let there : l < length point = omega (arith, size, within) in
    let lines_to = term_change point l to (balance p) (length p.lines) there within in
    let lines_from = term_change point l from (balance p) (length p.lines) there within in
    let apart : (pos to -ℤ pos from) *ℤ balance p l ≡ (pos to -ℤ pos now) *ℤ balance p l -ℤ (pos from -ℤ pos now) *ℤ balance p l =
    omega (arith, ints, mul_less (pos to) (pos from) (balance p l), mul_less (pos to) (pos now) (balance p l), mul_less (pos from) (pos now) (balance p l)) in
    let touched = sum_touches p l
    (λ j a. count_of (mark f j) (shifted (reduced_in values j) (pos to -ℤ pos now) a) -ℤ count_of (mark f j) (shifted (reduced_in values j) (pos from -ℤ pos now) a))
    (λ j. counted_shift (mark f j) (reduced_in values j) (pos from -ℤ pos now) (pos to -ℤ pos now)) in
    let each = sum_below_same
    (λ j. count_of (mark f j) (shifted (reduced_in values j) (pos to -ℤ pos now) (effect p j l)) -ℤ count_of (mark f j) (shifted (reduced_in values j) (pos from -ℤ pos now) (effect p j l)))
    (λ j. count_of (mark f j) (reduced p (λ k. get_or (set point l to) k 0) j) -ℤ count_of (mark f j) (reduced p (λ k. get_or (set point l from) k 0) j))
    (length p.items)
    (λ j below.
    let one : (x : ℕ) → count_of (mark f j) (shifted (reduced_in values j) (pos x -ℤ pos now) (effect p j l)) ≡ count_of (mark f j) (reduced p (λ k. get_or (set point l x) k 0) j) =
    λ x. ap (λ r. count_of (mark f j) (shifted r (pos x -ℤ pos now) (effect p j l))) (kept j below) ∙ ap (count_of (mark f j)) (sym (reduced_set p point l x j size within)) in
    omega (arith, ints, one to, one from)) in
    let places = sum_below_sub (λ j. count_of (mark f j) (reduced p (λ k. get_or (set point l to) k 0) j)) (λ j. count_of (mark f j) (reduced p (λ k. get_or (set point l from) k 0) j)) (length p.items) in
    let whole_to = lines_and_places p f (λ k. get_or (set point l to) k 0) in
    let whole_from = lines_and_places p f (λ k. get_or (set point l from) k 0) in
    omega (arith, ints, lines_to, lines_from, apart, touched, each, places, whole_to, whole_from)

-- sizes
pub effects_weight : (m : ℕ) (lam : ℕ → ℕ) (es : List Effect) → ((l : ℕ) → lam l ≤ 2 ^ 44) → All (λ e. Within m e.amount) es →
    Within (length es * (2 ^ 44 * m)) (sum_over (λ e. pos (lam e.line) *ℤ e.amount) es)
effects_weight m lam [] bounded small = record { low = omega (arith, ints); high = omega (arith, ints) }
effects_weight m lam (e ∷ es) bounded small =
    let first = product_small (lam e.line) m e.amount (bounded e.line) (All-head (λ (x : Effect). Within m x.amount) e es small) in
    let rest = effects_weight m lam es bounded (All-tail (λ (x : Effect). Within m x.amount) e es small) in
    let size : suc (length es) * (2 ^ 44 * m) ≡ length es * (2 ^ 44 * m) + 2 ^ 44 * m = omega arith in
    record { low = omega (arith, ints, first.low, rest.low, size); high = omega (arith, ints, first.high, rest.high, size) }

pub reduced_small : (p : Clearing) (lam : ℕ → ℕ) (j : ℕ) → IsProblem p → ((l : ℕ) → lam l ≤ 2 ^ 44) → j < length p.items → Within (2 ^ 103) (reduced p lam j)
reduced_small p lam j limits bounded within =
    let item = item_limits p j limits within in
    let lines = sparse (λ l. pos (lam l)) (item_at p j).effects (length p.lines) item.effects.in_range in
    let weight = effects_weight (2 ^ 53) lam (item_at p j).effects bounded
    (λ k d below. widen (8 * 10 ^ 15) (2 ^ 53) _ (omega arith) (item.effects.bounded k d below)) in
    let size : length (item_at p j).effects * (2 ^ 44 * 2 ^ 53) ≤ 2 ^ 102 = omega (arith, item.effects.size) in
    let value : worth p j ≤ 128 * 10 ^ 15 = item.value_high in
    record {
      low = omega (arith, ints, lines, weight.low, size);
      high = omega (arith, ints, lines, weight.high, size, value);
    }

pub sum_small : (p : Clearing) (f : List Mark) (lam : ℕ → ℕ) → IsProblem p → ((l : ℕ) → lam l ≤ 2 ^ 44) → Within (2 ^ 117 - 1) (sum_of p f lam)
sum_small p f lam limits bounded =
    let lines = sum_below_within (2 ^ 44 * 2 ^ 60) (λ l. pos (lam l) *ℤ balance p l) (length p.lines)
    (λ l below.
    let most = balance_small p l limits in
    product_small (lam l) (2 ^ 60) (balance p l) (bounded l) (record { low = omega (arith, ints, most.0); high = omega (arith, ints, most.1) })) in
    let places = sum_below_within (2 ^ 103) (λ j. count_of (mark f j) (reduced p lam j)) (length p.items)
    (λ j below. counted_small (2 ^ 103) (mark f j) (reduced p lam j) (reduced_small p lam j limits bounded below)) in
    let many_lines : length p.lines * (2 ^ 44 * 2 ^ 60) ≤ 2 ^ 116 = omega (arith, limits.lines) in
    let many_places : length p.items * 2 ^ 103 ≤ 2 ^ 113 = omega (arith, limits.items) in
    record {
      low = omega (arith, ints, lines.low, places.low, many_lines, many_places, lines_and_places p f lam);
      high = omega (arith, ints, lines.high, places.high, many_lines, many_places, lines_and_places p f lam);
    }
