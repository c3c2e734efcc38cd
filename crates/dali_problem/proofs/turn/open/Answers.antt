use Rattle.std.proofs.Common.{ℕ, ◌<◌, ◌∙◌, length, get_or, arith}
use Rattle.dali_problem.proofs.Turned.{sums_small}
use Rattle.dali_problem.proofs.Opened.{of_strangers, none_undecided, more_undecided}
use Rattle.dali_problem.proofs.turn.open.Goals as goal

pub loop-place-init : goal.loop-place-init
loop-place-init c = record {
  undecided = none_undecided c.args.problem.now c.args.marks.now c.requires.strangers;
  of = of_strangers c.args.problem.now c.args.marks.now c.balances.new.sums c.requires.strangers
      (c.balances.auto.sums ∙ c.requires.lines) c.balances.ensures.sums;
}

pub loop-place-preserved : goal.loop-place-preserved
loop-place-preserved c =
    let place : ℕ = get_or c.args.members.now c.loop-place.place-index 0 in
    let inside : place < length c.args.problem.now.items = c.requires.members c.loop-place.place-index 0 c.loop-place-test.true in
    record {
      undecided = more_undecided c.loop-place.marks c.turn.new.marks c.args.members.now c.loop-place.place-index c.loop-place-test.true
          (omega (arith, inside, c.loop-place.invariant.of.marks)) c.turn.ensures.marks c.loop-place.invariant.undecided;
      of = c.turn.ensures.of;
    }

pub returns-clause-small : goal.returns-clause-small
returns-clause-small c =
    sums_small c.args.problem.now (record { marks = c.loop-place.marks; sums = c.loop-place.sums }) c.balances.ensures.bounds c.loop-place.invariant.of
