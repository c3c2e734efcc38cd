use Rattle.std.proofs.Common.{◌≡◌, ℕ, pos, ◌+ℤ◌, ◌*ℤ◌, List, length, arith}
use Rattle.std.proofs.lemmas.Int.{ints}
use Rattle.std.specs.Int.{int_max}
use Rattle.dali_problem.specs.declared.mark.Mark.{Mark}
use Rattle.dali_problem.specs.Sums.{sum_below, pick}
use Rattle.dali_problem.specs.Clearing.{Clearing, balance, worth, effect}
use Rattle.dali_problem.specs.Partial.{mark, is_chosen, is_undecided}
use Rattle.dali_problem.proofs.SumLaws.{sum_below_add, sum_below_scale, sum_below_same}
use Rattle.dali_lagrange.specs.Bound.{reduced, sum_of, count_of}
use Rattle.dali_lagrange.proofs.Regroup.{regroup, pick_scale}

-- each line's balance and what each place counts make the Sum
pub lines_and_places : (p : Clearing) (f : List Mark) (lam : ℕ → ℕ) →
    sum_below (λ l. pos (lam l) *ℤ balance p l) (length p.lines)
    +ℤ sum_below (λ j. count_of (mark f j) (reduced p lam j)) (length p.items)
    ≡ sum_of p f lam
unfolding sum_of
lines_and_places p f lam =
    let chosen = regroup (λ j. is_chosen (mark f j)) (λ j. pos 4096 *ℤ pos (worth p j)) (λ l. pos (lam l)) (balance p) (effect p) (length p.lines) (length p.items) in
    let scale = sum_below_scale (pos 4096) (λ j. pick (is_chosen (mark f j)) (pos (worth p j))) (length p.items) in
    let picks = sum_below_same (λ j. pos 4096 *ℤ pick (is_chosen (mark f j)) (pos (worth p j)))
    (λ j. pick (is_chosen (mark f j)) (pos 4096 *ℤ pos (worth p j))) (length p.items)
    (λ j below. pick_scale (is_chosen (mark f j)) (pos 4096) (pos (worth p j))) in
    let split = sum_below_add (λ j. pick (is_chosen (mark f j)) (reduced p lam j))
    (λ j. pick (is_undecided (mark f j)) (int_max (pos 0) (reduced p lam j))) (length p.items) in
    omega (arith, ints, chosen, scale, picks, split)
