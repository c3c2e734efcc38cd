use Rattle.std.proofs.Common.{◌≡◌, ℕ, ℤ, pos, ◌*ℤ◌, List, length, ap, sym, ◌∙◌, arith}
use Rattle.std.proofs.lemmas.Int.{ints}
use Rattle.dali_problem.specs.declared.mark.Mark.{Mark}
use Rattle.dali_problem.specs.Sums.{sum_below}
use Rattle.dali_problem.specs.Clearing.{Clearing, balance, worth, effect}
use Rattle.dali_problem.specs.Partial.{mark}
use Rattle.dali_problem.proofs.SumLaws.{sum_below_same, sum_below_zero}
use Rattle.dali_lagrange.specs.Bound.{reduced, sum_of, count_of}
use Rattle.dali_lagrange.proofs.Whole.{lines_and_places}

zero_times : (z : ℤ) → pos 0 *ℤ z ≡ pos 0
zero_times z = grind (arith, ints)

none : (g : ℕ → ℤ) (n : ℕ) → sum_below (λ l. pos 0 *ℤ g l) n ≡ pos 0
none g n = sum_below_same (λ l. pos 0 *ℤ g l) (λ _. pos 0) n (λ l below. zero_times (g l)) ∙ sum_below_zero n

-- with all multipliers 0 a reduced value is the value on the scale
pub zero_reduced : (p : Clearing) (j : ℕ) → reduced p (λ _. 0) j ≡ pos 4096 *ℤ pos (worth p j)
zero_reduced p j = omega (arith, ints, none (effect p j) (length p.lines))

pub zero_sum_is : (p : Clearing) (f : List Mark) → sum_below (λ j. count_of (mark f j) (pos 4096 *ℤ pos (worth p j))) (length p.items) ≡ sum_of p f (λ _. 0)
zero_sum_is p f =
    let places = sum_below_same (λ j. count_of (mark f j) (pos 4096 *ℤ pos (worth p j))) (λ j. count_of (mark f j) (reduced p (λ _. 0) j)) (length p.items)
    (λ j below. ap (count_of (mark f j)) (sym (zero_reduced p j))) in
    omega (arith, ints, places, none (balance p) (length p.lines), lines_and_places p f (λ _. 0))
