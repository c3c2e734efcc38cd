use Rattle.std.proofs.Common.{◌≤◌, List, sym, subst, arith}
use Rattle.dali_problem.specs.declared.mark.Mark.{Mark}
use Rattle.dali_problem.specs.Feasible.{value_of}
use Rattle.dali_problem.specs.Partial.{Agrees}
use Rattle.dali_search.proofs.Starting.{start_agrees}
use Rattle.dali_search.proofs.offer.keep.Goals as goal

pub returns-clause-kept : goal.returns-clause-kept
returns-clause-kept c =
    let p = c.args.problem.now in
    let agrees = subst (λ (f : List Mark). Agrees f c.args.set.now) (sym c.requires.undecided) (start_agrees p c.args.set.now c.requires.places) in
    let more : value_of p c.args.set.now ≤ value_of p c.in-Some.places = rw c.in-Some.is at (c.in_ok-places.ensures.not_worse c.requires.feasible agrees) in
    omega (arith, more, c.value_of-best.ensures)

pub returns-clause-not_worse : goal.returns-clause-not_worse
returns-clause-not_worse c =
    let p = c.args.problem.now in
    let agrees = subst (λ (f : List Mark). Agrees f c.args.set.now) (sym c.requires.undecided) (start_agrees p c.args.set.now c.requires.places) in
    let more : value_of p c.args.set.now ≤ value_of p c.in-Some.places = rw c.in-Some.is at (c.in_ok-places.ensures.not_worse c.requires.feasible agrees) in
    omega (arith, more, c.value_of-best.ensures, c.value_of.ensures, c.if-value_of-best.false)

pub unreachable-requires : goal.unreachable-requires
unreachable-requires c =
    let p = c.args.problem.now in
    let agrees = subst (λ (f : List Mark). Agrees f c.args.set.now) (sym c.requires.undecided) (start_agrees p c.args.set.now c.requires.places) in
    rw c.in-None.is at (c.in_ok-places.ensures.not_worse c.requires.feasible agrees)
