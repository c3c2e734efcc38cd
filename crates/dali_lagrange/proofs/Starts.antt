use Rattle.std.proofs.Common.{◌≡◌, ℕ, ◌<◌, ◌≤ℤ◌, ℤ, List, [], length, get_or, ap, sym, ◌∙◌, arith}
use Rattle.std.proofs.lemmas.Int.{ints}
use Rattle.dali_problem.specs.declared.mark.Mark.{Mark}
use Rattle.dali_problem.specs.Clearing.{Clearing}
use Rattle.dali_lagrange.specs.Bound.{sum_of}
use Rattle.dali_lagrange.specs.Multipliers.{multiplier}
use Rattle.dali_lagrange.proofs.Moved.{sum_same}

-- multipliers that were loaded
pub is_start : (p : Clearing) (f : List Mark) (ms : List ℕ) (lam : List (ℕ × ℕ)) → ((l : ℕ) → l < length p.lines → get_or ms l 0 ≡ multiplier lam l) →
    sum_of p f (λ l. get_or ms l 0) ≤ℤ sum_of p f (multiplier lam)
is_start p f ms lam loaded =
    let same = sum_same p f (λ l. get_or ms l 0) (multiplier lam) loaded in
    omega (arith, ints, same)

-- none were loaded after them, since the Sum is no smaller with them
pub at_most_start : (p : Clearing) (f g : List Mark) (ms ns : List ℕ) (lam none : List (ℕ × ℕ)) (s z : ℤ) → g ≡ f → none ≡ [] →
    ((l : ℕ) → l < length p.lines → get_or ns l 0 ≡ multiplier none l) → ((l : ℕ) → l < length p.lines → get_or ms l 0 ≡ multiplier lam l) →
    s ≡ sum_of p f (λ l. get_or ms l 0) → z ≡ sum_of p f (λ _. 0) → z ≤ℤ s →
    sum_of p g (λ l. get_or ns l 0) ≤ℤ sum_of p g (multiplier lam)
at_most_start p f g ms ns lam none s z marks nothing zeros loaded sum zero_sum above =
    let all_zero : sum_of p g (λ l. get_or ns l 0) ≡ sum_of p g (λ _. 0) = sum_same p g (λ l. get_or ns l 0) (λ _. 0)
    (λ l below. zeros l below ∙ ap (λ (xs : List (ℕ × ℕ)). multiplier xs l) nothing) in
    let back : sum_of p g (λ _. 0) ≡ sum_of p f (λ _. 0) = ap (λ (h : List Mark). sum_of p h (λ _. 0)) marks in
    let there : sum_of p f (multiplier lam) ≡ sum_of p g (multiplier lam) = ap (λ (h : List Mark). sum_of p h (multiplier lam)) (sym marks) in
    let same = sum_same p f (λ l. get_or ms l 0) (multiplier lam) loaded in
    omega (arith, ints, all_zero, back, there, same, sum, zero_sum, above)
