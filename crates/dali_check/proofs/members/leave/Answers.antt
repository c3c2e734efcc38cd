use Rattle.std.proofs.Common.{length, ◌∙◌}
use Rattle.dali_problem.specs.declared.mark.Mark.TheVariants.{Left}
use Rattle.dali_check.proofs.Entering.{given_next}
use Rattle.dali_check.proofs.members.leave.Goals as goal

pub fix-requires-clause-undecided : goal.fix-requires-clause-undecided
fix-requires-clause-undecided c =
    given_next (length c.args.problem.now.items) c.args.members.now c.loop-place.place-index Left c.args.partial.now.marks
    c.loop-place.partial.marks c.requires.members c.loop-place-test.true c.loop-place.invariant.marks
    ∙ c.requires.undecided c.loop-place.place-index 0 c.loop-place-test.true
