use Rattle.std.proofs.Common.{◌≡◌, ◌≢◌, inl, inr, ℕ, ◌<◌, ℤ, pos, ◌+ℤ◌, ◌*ℤ◌, Bool, true, false, List, [], ◌∷◌, refl, ap, sym, ◌∙◌, arith}
use Rattle.std.proofs.lemmas.Int.{ints}
use Rattle.std.proofs.lemmas.Bool.Decides.{eqb_tells}
use Rattle.std.proofs.lemmas.List.Elements.{All-head, All-tail}
use Rattle.std.specs.List.{All}
use Rattle.dali_problem.specs.declared.row.Effect.{Effect}
use Rattle.dali_problem.specs.Sums.{sum_below, sum_over, pick}
use Rattle.dali_problem.specs.Clearing.{on_line}
use Rattle.dali_problem.proofs.IntegerLaws.{mul_add}
use Rattle.dali_problem.proofs.SumLaws.{sum_below_zero, sum_below_add, sum_below_scale, sum_below_same, sum_below_swap, sum_below_change}
use Rattle.dali_problem.proofs.Lines.{on_same, on_other}

times_zero : (z : ℤ) → z *ℤ pos 0 ≡ pos 0
times_zero z = grind (arith, ints)

-- one effect, over all lines
one_effect : (t : ℕ → ℤ) (e : Effect) (k : ℕ) → e.line < k →
    sum_below (λ l. t l *ℤ on_line l e) k ≡ t e.line *ℤ e.amount
one_effect t e k within =
    let other : (l : ℕ) → l < k → l ≢ e.line → t l *ℤ on_line l e ≡ pos 0 = λ l below off.
    elim (eqb_tells e.line l) as (λ _. t l *ℤ on_line l e ≡ pos 0) [
      | inl same ↦ absurd (off (sym same.1))
      | inr differ ↦ ap (λ z. t l *ℤ z) (on_other e l differ.0) ∙ times_zero (t l)
    ] in
    let here : t e.line *ℤ on_line e.line e ≡ t e.line *ℤ e.amount =
    elim (eqb_tells e.line e.line) as (λ _. t e.line *ℤ on_line e.line e ≡ t e.line *ℤ e.amount) [
      | inl same ↦ ap (λ z. t e.line *ℤ z) (on_same e e.line same.0)
      | inr differ ↦ absurd (differ.1 refl)
    ] in
    let change = sum_below_change (λ _. pos 0) (λ l. t l *ℤ on_line l e) k e.line within other in
    omega (arith, ints, change, here, sum_below_zero k)

-- a place's effects, over all lines
pub sparse : (t : ℕ → ℤ) (es : List Effect) (k : ℕ) → All (λ e. e.line < k) es →
    sum_below (λ l. t l *ℤ sum_over (on_line l) es) k ≡ sum_over (λ e. t e.line *ℤ e.amount) es
sparse t [] k within = sum_below_same (λ l. t l *ℤ pos 0) (λ _. pos 0) k (λ l below. times_zero (t l)) ∙ sum_below_zero k
sparse t (e ∷ es) k within =
    let first = one_effect t e k (All-head (λ (x : Effect). x.line < k) e es within) in
    let rest = sparse t es k (All-tail (λ (x : Effect). x.line < k) e es within) in
    let split = sum_below_same (λ l. t l *ℤ (on_line l e +ℤ sum_over (on_line l) es))
    (λ l. t l *ℤ on_line l e +ℤ t l *ℤ sum_over (on_line l) es) k
    (λ l below. mul_add (t l) (on_line l e) (sum_over (on_line l) es)) in
    let parts = sum_below_add (λ l. t l *ℤ on_line l e) (λ l. t l *ℤ sum_over (on_line l) es) k in
    omega (arith, ints, first, rest, split, parts)

pub pick_scale : (b : Bool) (c z : ℤ) → c *ℤ pick b z ≡ pick b (c *ℤ z)
pick_scale true c z = refl
pick_scale false c z = times_zero c

-- one place: its own worth, and what it adds to each line
one_place : (b : Bool) (lam : ℕ → ℤ) (a : ℤ) (e : ℕ → ℤ) (n : ℕ) →
    pick b a +ℤ sum_below (λ l. lam l *ℤ pick b (e l)) n ≡ pick b (a +ℤ sum_below (λ l. lam l *ℤ e l) n)
one_place true lam a e n = refl
one_place false lam a e n =
    let none = sum_below_same (λ l. lam l *ℤ pos 0) (λ _. pos 0) n (λ l below. times_zero (lam l)) in
    omega (arith, ints, none, sum_below_zero n)

-- what lines hold after the places that pass, place by place
pub regroup : (w : ℕ → Bool) (a : ℕ → ℤ) (lam : ℕ → ℤ) (bal : ℕ → ℤ) (e : ℕ → ℕ → ℤ) (n m : ℕ) →
    sum_below (λ j. pick (w j) (a j)) m +ℤ sum_below (λ l. lam l *ℤ (bal l +ℤ sum_below (λ j. pick (w j) (e j l)) m)) n
    ≡ sum_below (λ l. lam l *ℤ bal l) n +ℤ sum_below (λ j. pick (w j) (a j +ℤ sum_below (λ l. lam l *ℤ e j l) n)) m
regroup w a lam bal e n m =
    let split = sum_below_same (λ l. lam l *ℤ (bal l +ℤ sum_below (λ j. pick (w j) (e j l)) m))
    (λ l. lam l *ℤ bal l +ℤ sum_below (λ j. lam l *ℤ pick (w j) (e j l)) m) n
    (λ l below.
    let one = mul_add (lam l) (bal l) (sum_below (λ j. pick (w j) (e j l)) m) in
    let in_places = sum_below_scale (lam l) (λ j. pick (w j) (e j l)) m in
    omega (arith, ints, one, in_places)) in
    let parts = sum_below_add (λ l. lam l *ℤ bal l) (λ l. sum_below (λ j. lam l *ℤ pick (w j) (e j l)) m) n in
    let swap = sum_below_swap (λ l j. lam l *ℤ pick (w j) (e j l)) n m in
    let joined = sum_below_add (λ j. pick (w j) (a j)) (λ j. sum_below (λ l. lam l *ℤ pick (w j) (e j l)) n) m in
    let each = sum_below_same (λ j. pick (w j) (a j) +ℤ sum_below (λ l. lam l *ℤ pick (w j) (e j l)) n)
    (λ j. pick (w j) (a j +ℤ sum_below (λ l. lam l *ℤ e j l) n)) m
    (λ j below. one_place (w j) lam (a j) (e j) n) in
    omega (arith, ints, split, parts, swap, joined, each)
