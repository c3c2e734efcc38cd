use Rattle.std.proofs.Common.{ℕ, Bool, not, false, take, get_or, refl, arith}
use Rattle.std.proofs.lemmas.List.Filters.{sum_by-filter_both}
use Rattle.dali_problem.specs.Clearing.{worth}
use Rattle.dali_problem.specs.Feasible.{ArePlaces}
use Rattle.dali_problem.proofs.Values.{value_fits}
use Rattle.dali_check.proofs.totals.marked_value.Goals as goal

pub overflow_add-total : goal.overflow_add-total
overflow_add-total c =
    let p = c.args.problem.now in
    let xs = c.args.members.now in
    let i = c.loop-place.place-index in
    let test : ℕ → Bool = λ (j : ℕ). get_or c.args.marks.now j false in
    let places : ArePlaces p xs = record { rising = c.requires.members.rising; in_range = c.requires.members.in_range } in
    let fits = value_fits p xs i 0 c.items-items.ensures.bounds places c.loop-place-test.true in
    let less = sum_by-filter_both test (λ (j : ℕ). not (test j)) (λ _. refl) (worth p) (take i xs) in
    omega (arith, fits, less, c.loop-place.invariant.total, c.value-total.ensures.value)
