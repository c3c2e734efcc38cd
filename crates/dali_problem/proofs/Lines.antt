use Rattle.std.proofs.Common.{◌≡◌, inl, inr, ℕ, suc, ◌+◌, ◌*◌, ◌^◌, ◌<◌, ◌≤◌, ℤ, pos, ◌+ℤ◌, ◌≤ℤ◌, true, false, List, [], ◌∷◌, length, take, get_or, set, eqb, ap, sym, ◌∙◌, subst, arith}
use Rattle.std.specs.List.{All}
use Rattle.std.proofs.lemmas.Bool.{cases_lt}
use Rattle.std.proofs.lemmas.Bool.Decides.{eqb_tells}
use Rattle.std.proofs.lemmas.Int.{ints}
use Rattle.std.proofs.lemmas.List.{get_or-set_same, get_or-set_other, get_or_past, length-take}
use Rattle.std.proofs.lemmas.List.Elements.{All-head, All-tail, All-get_or, All-take}
use Rattle.dali_problem.specs.declared.row.LineRow.{LineRow}
use Rattle.dali_problem.specs.declared.row.Effect.{Effect}
use Rattle.dali_problem.specs.Sums.{sum_over, pick}
use Rattle.dali_problem.specs.Clearing.{Item, Clearing, no_line, no_item, line_at, item_at, balance, effect, on_line}
use Rattle.dali_problem.specs.Limits.{Within, AreEffects, IsItem, IsProblem}
use Rattle.dali_problem.specs.Feasible.{booked}
use Rattle.dali_problem.proofs.SumLaws.{sum_over_more, sum_over_within}

-- what an effect is on its line and on another
pub on_same : (e : Effect) (k : ℕ) → eqb e.line k ≡ true → on_line k e ≡ e.amount
on_same e k same = ap (λ b. pick b e.amount) same

pub on_other : (e : Effect) (k : ℕ) → eqb e.line k ≡ false → on_line k e ≡ pos 0
on_other e k other = ap (λ b. pick b e.amount) other

-- one line changed by one effect
pub one_changed : (at : List ℤ) (e : Effect) (v : ℤ) (k : ℕ) → k < length at → v ≡ get_or at e.line (pos 0) +ℤ e.amount →
    get_or (set at e.line v) k (pos 0) ≡ get_or at k (pos 0) +ℤ on_line k e
one_changed at e v k within new =
    elim (eqb_tells e.line k) as (λ _. get_or (set at e.line v) k (pos 0) ≡ get_or at k (pos 0) +ℤ on_line k e) [
      | inl same ↦
          let put : get_or (set at e.line v) k (pos 0) ≡ v =
          ap (λ n. get_or (set at n v) k (pos 0)) same.1 ∙ get_or-set_same at k v (pos 0) within in
          let was : get_or at e.line (pos 0) ≡ get_or at k (pos 0) = ap (λ n. get_or at n (pos 0)) same.1 in
          let here : on_line k e ≡ e.amount = on_same e k same.0 in
          omega (arith, ints)
      | inr other ↦
          let put : get_or (set at e.line v) k (pos 0) ≡ get_or at k (pos 0) =
          get_or-set_other at e.line k v (pos 0) (λ q. other.1 (sym q)) in
          let here : on_line k e ≡ pos 0 = on_other e k other.0 in
          omega (arith, ints)
    ]

pub add_step : (start at : List ℤ) (es : List Effect) (i : ℕ) (d e : Effect) (v : ℤ) → i < length es → e ≡ get_or es i d →
    v ≡ get_or at e.line (pos 0) +ℤ e.amount →
    ((k : ℕ) → k < length at → get_or at k (pos 0) ≡ get_or start k (pos 0) +ℤ sum_over (on_line k) (take i es)) →
    (k : ℕ) → k < length at →
    get_or (set at e.line v) k (pos 0) ≡ get_or start k (pos 0) +ℤ sum_over (on_line k) (take (i + 1) es)
add_step start at es i d e v within read new before k inside =
    let more : sum_over (on_line k) (take (i + 1) es) ≡ sum_over (on_line k) (take i es) +ℤ on_line k (get_or es i d) =
    sum_over_more (on_line k) es i d within in
    let same : on_line k e ≡ on_line k (get_or es i d) = ap (on_line k) read in
    let put = one_changed at e v k inside new in
    let was = before k inside in
    omega (arith, ints, put, was)

-- effects are small, alone and together
pub on_line_within : (l : ℕ) (e : Effect) (m : ℕ) → Within m e.amount → Within m (on_line l e)
on_line_within l e m small = elim (eqb_tells e.line l) as (λ _. Within m (on_line l e)) [
  | inl same ↦ subst (Within m) (sym (on_same e l same.0)) small
  | inr other ↦ subst (Within m) (sym (on_other e l other.0)) (record { low = omega (arith, ints); high = omega (arith, ints) })
]

effects_within : (l m : ℕ) (es : List Effect) → All (λ e. Within m e.amount) es → Within (length es * m) (sum_over (on_line l) es)
effects_within l m [] small = record { low = omega (arith, ints); high = omega (arith, ints) }
effects_within l m (e ∷ es) small =
    let first = on_line_within l e m (All-head (λ (x : Effect). Within m x.amount) e es small) in
    let rest = effects_within l m es (All-tail (λ (x : Effect). Within m x.amount) e es small) in
    let size : suc (length es) * m ≡ length es * m + m = omega arith in
    record { low = omega (arith, ints, first.low, rest.low); high = omega (arith, ints, first.high, rest.high) }

pub widen : (m n : ℕ) (z : ℤ) → m ≤ n → Within m z → Within n z
widen m n z wider small = record { low = omega (arith, ints, small.low); high = omega (arith, ints, small.high) }

pub effects_small : (n l : ℕ) (es : List Effect) → AreEffects n es → Within (2 ^ 58) (sum_over (on_line l) es)
effects_small n l es are =
    let small = effects_within l (8 * 10 ^ 15) es are.bounded in
    let size : length es * (8 * 10 ^ 15) ≤ 2 ^ 58 = omega (arith, are.size) in
    widen (length es * (8 * 10 ^ 15)) (2 ^ 58) (sum_over (on_line l) es) size small

-- a part of the effects is small too
pub part_small : (n l i : ℕ) (es : List Effect) → AreEffects n es → Within (2 ^ 58) (sum_over (on_line l) (take i es))
part_small n l i es are =
    let small = effects_within l (8 * 10 ^ 15) (take i es) (All-take (λ (e : Effect). Within (8 * 10 ^ 15) e.amount) i es are.bounded) in
    let count : length (take i es) ≤ 32 = omega (arith, length-take i es, are.size) in
    let size : length (take i es) * (8 * 10 ^ 15) ≤ 2 ^ 58 = omega (arith, count) in
    widen (length (take i es) * (8 * 10 ^ 15)) (2 ^ 58) (sum_over (on_line l) (take i es)) size small

pub add_room : (n l i : ℕ) (es : List Effect) (start z : ℤ) → AreEffects n es → Within (2 ^ 124) start →
    z ≡ start +ℤ sum_over (on_line l) (take i es) → Within (2 ^ 125) z
add_room n l i es start z are room is =
    let part = part_small n l i es are in
    record { low = omega (arith, ints, part.low, room.low, is); high = omega (arith, ints, part.high, room.high, is) }

-- what holds of the item at a place, whatever the default
pub item_limits : (p : Clearing) (j : ℕ) → IsProblem p → j < length p.items → IsItem (length p.lines) (item_at p j)
item_limits p j limits within = All-get_or (IsItem (length p.lines)) p.items j no_item within limits.each

pub effect_small : (p : Clearing) (j l : ℕ) → IsProblem p → Within (2 ^ 58) (effect p j l)
effect_small p j l limits = elim (cases_lt j (length p.items)) as (λ _. Within (2 ^ 58) (effect p j l)) [
  | inl within ↦ effects_small (length p.lines) l (item_at p j).effects (item_limits p j limits within).effects
  | inr past ↦
      let none : item_at p j ≡ no_item = get_or_past p.items j no_item past in
      let nothing : effect p j l ≡ pos 0 = ap (λ (item : Item). sum_over (on_line l) item.effects) none in
      subst (Within (2 ^ 58)) (sym nothing) (record { low = omega (arith, ints); high = omega (arith, ints) })
]

pub balance_small : (p : Clearing) (l : ℕ) → IsProblem p → (pos 0 ≤ℤ balance p l) × (balance p l ≤ℤ pos (2 ^ 60))
balance_small p l limits = elim (cases_lt l (length p.lines)) as (λ _. (pos 0 ≤ℤ balance p l) × (balance p l ≤ℤ pos (2 ^ 60))) [
  | inl within ↦
      let small : (line_at p l).balance ≤ 10 ^ 18 = All-get_or (λ (row : LineRow). row.balance ≤ 10 ^ 18) p.lines l no_line within limits.balances in
      (omega (arith, ints), omega (arith, ints))
  | inr past ↦
      let none : (line_at p l).balance ≡ 0 = ap (λ (row : LineRow). row.balance) (get_or_past p.lines l no_line past) in
      (omega (arith, ints), omega (arith, ints))
]

pub booked_small : (p : Clearing) (s : List ℕ) (l : ℕ) → IsProblem p → length s < 2 ^ 64 → Within (2 ^ 124) (booked p s l)
booked_small p s l limits short =
    let sum = sum_over_within (2 ^ 58) (λ j. effect p j l) s (λ j. effect_small p j l limits) in
    let start = balance_small p l limits in
    let size : length s * 2 ^ 58 ≤ 2 ^ 122 = omega (arith, short) in
    record { low = omega (arith, ints, sum.low, start.0, start.1); high = omega (arith, ints, sum.high, start.0, start.1) }

pub book_step : (p : Clearing) (s : List ℕ) (i j d l : ℕ) (new old : ℤ) → i < length s → j ≡ get_or s i d →
    old ≡ booked p (take i s) l → new ≡ old +ℤ effect p j l → new ≡ booked p (take (i + 1) s) l
book_step p s i j d l new old within read before is =
    let more : sum_over (λ k. effect p k l) (take (i + 1) s) ≡ sum_over (λ k. effect p k l) (take i s) +ℤ effect p (get_or s i d) l =
    sum_over_more (λ k. effect p k l) s i d within in
    let same : effect p j l ≡ effect p (get_or s i d) l = ap (λ k. effect p k l) read in
    omega (arith, ints)
