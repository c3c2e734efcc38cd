use Rattle.std.proofs.Common.{◌≡◌, inl, inr, ℕ, ◌+◌, ◌^◌, ◌<◌, ℤ, pos, ◌+ℤ◌, ◌-ℤ◌, List, length, take, get_or, set, ap, sym, ◌∙◌, arith}
use Rattle.std.proofs.lemmas.Bool.Decides.{eqb_tells}
use Rattle.std.proofs.lemmas.Int.{ints}
use Rattle.std.proofs.lemmas.List.{get_or-set_same, get_or-set_other}
use Rattle.dali_problem.specs.declared.row.Effect.{Effect}
use Rattle.dali_problem.specs.Sums.{sum_over}
use Rattle.dali_problem.specs.Clearing.{on_line}
use Rattle.dali_problem.specs.Limits.{Within, AreEffects}
use Rattle.dali_problem.proofs.SumLaws.{sum_over_more}
use Rattle.dali_problem.proofs.Lines.{on_same, on_other, part_small}

-- one line lowered by one effect
pub one_lowered : (at : List ℤ) (e : Effect) (v : ℤ) (k : ℕ) → k < length at → v ≡ get_or at e.line (pos 0) -ℤ e.amount →
    get_or (set at e.line v) k (pos 0) ≡ get_or at k (pos 0) -ℤ on_line k e
one_lowered at e v k within new =
    elim (eqb_tells e.line k) as (λ _. get_or (set at e.line v) k (pos 0) ≡ get_or at k (pos 0) -ℤ on_line k e) [
      | inl same ↦
          let put : get_or (set at e.line v) k (pos 0) ≡ v =
          ap (λ n. get_or (set at n v) k (pos 0)) same.1 ∙ get_or-set_same at k v (pos 0) within in
          let was : get_or at e.line (pos 0) ≡ get_or at k (pos 0) = ap (λ n. get_or at n (pos 0)) same.1 in
          let here : on_line k e ≡ e.amount = on_same e k same.0 in
          omega (arith, ints)
      | inr other ↦
          let put : get_or (set at e.line v) k (pos 0) ≡ get_or at k (pos 0) =
          get_or-set_other at e.line k v (pos 0) (λ q. other.1 (sym q)) in
          let here : on_line k e ≡ pos 0 = on_other e k other.0 in
          omega (arith, ints)
    ]

pub take_step : (start at : List ℤ) (es : List Effect) (i : ℕ) (d e : Effect) (v : ℤ) → i < length es → e ≡ get_or es i d →
    v ≡ get_or at e.line (pos 0) -ℤ e.amount →
    ((k : ℕ) → k < length at → get_or at k (pos 0) ≡ get_or start k (pos 0) -ℤ sum_over (on_line k) (take i es)) →
    (k : ℕ) → k < length at →
    get_or (set at e.line v) k (pos 0) ≡ get_or start k (pos 0) -ℤ sum_over (on_line k) (take (i + 1) es)
take_step start at es i d e v within read new before k inside =
    let more : sum_over (on_line k) (take (i + 1) es) ≡ sum_over (on_line k) (take i es) +ℤ on_line k (get_or es i d) =
    sum_over_more (on_line k) es i d within in
    let same : on_line k e ≡ on_line k (get_or es i d) = ap (on_line k) read in
    let put = one_lowered at e v k inside new in
    let was = before k inside in
    omega (arith, ints, put, was)

pub take_room : (n l i : ℕ) (es : List Effect) (start z : ℤ) → AreEffects n es → Within (2 ^ 124) start →
    z ≡ start -ℤ sum_over (on_line l) (take i es) → Within (2 ^ 125) z
take_room n l i es start z are room is =
    let part = part_small n l i es are in
    record { low = omega (arith, ints, part.low, part.high, room.low, is); high = omega (arith, ints, part.low, part.high, room.high, is) }
