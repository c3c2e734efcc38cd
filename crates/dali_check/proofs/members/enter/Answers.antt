use Rattle.std.proofs.Common.{◌<◌, length, get_or, ap, ◌∙◌, arith}
use Rattle.dali_problem.specs.declared.mark.Mark.TheVariants.{Stranger, Undecided}
use Rattle.dali_problem.specs.Partial.{is_decided}
use Rattle.dali_check.proofs.Entering.{given_next}
use Rattle.dali_check.proofs.members.enter.Goals as goal

pub free-requires-clause-decided : goal.free-requires-clause-decided
free-requires-clause-decided c =
    let place = get_or c.args.members.now c.loop-place.place-index 0 in
    let inside : place < length c.args.problem.now.items = c.requires.members.in_range c.loop-place.place-index 0 c.loop-place-test.true in
    ap is_decided
    (given_next (length c.args.problem.now.items) c.args.members.now c.loop-place.place-index Undecided c.args.partial.now.marks
    c.loop-place.partial.marks c.requires.members c.loop-place-test.true c.loop-place.invariant.marks
    ∙ c.requires.idle place Stranger (omega (arith, inside, c.requires.of.marks)))
