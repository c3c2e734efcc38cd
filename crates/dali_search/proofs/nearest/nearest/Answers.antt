use Rattle.std.proofs.Common.{◌≡◌, ℕ, ◌<◌, List, length, subst, arith}
use Rattle.dali_problem.specs.declared.mark.Mark.{Mark}
use Rattle.dali_problem.specs.declared.mark.Mark.TheVariants.{Undecided}
use Rattle.dali_problem.specs.Partial.{mark}
use Rattle.dali_search.specs.Nearest.{IsNearestBelow}
use Rattle.dali_search.proofs.Nearing.{found_some, found_nearest}
use Rattle.dali_search.proofs.nearest.nearest.Goals as goal

pub unreachable-requires : goal.unreachable-requires
unreachable-requires c =
    let p = c.args.problem.now in
    let f : List Mark = c.args.partial.now.marks in
    let end : c.loop-place.place ≡ length p.items = omega (arith, c.loop-place-test.false, c.loop-place.auto.place-end, c.items-place-end.ensures.count) in
    let none : (j : ℕ) → j < c.loop-place.place → ¬ (mark f j ≡ Undecided) = rw c.in-None.is at c.loop-place.invariant.found in
    found_some p f c.requires.some (λ j below. none j (omega (arith, below, end)))

pub returns-clause-nearest : goal.returns-clause-nearest
returns-clause-nearest c =
    let p = c.args.problem.now in
    let f : List Mark = c.args.partial.now.marks in
    let end : c.loop-place.place ≡ length p.items = omega (arith, c.loop-place-test.false, c.loop-place.auto.place-end, c.items-place-end.ensures.count) in
    let found : IsNearestBelow p c.args.lam.now f c.loop-place.place c.in-Some.near = rw c.in-Some.is at c.loop-place.invariant.found in
    found_nearest p c.args.lam.now f c.in-Some.near (subst (λ (n : ℕ). IsNearestBelow p c.args.lam.now f n c.in-Some.near) end found)
