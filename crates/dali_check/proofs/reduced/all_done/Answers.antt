use Rattle.std.proofs.Common.{length, sym, ◌∙◌, arith}
use Rattle.dali_check.proofs.Reducing.{is_done, all_below_fails}
use Rattle.dali_check.proofs.reduced.all_done.Goals as goal

pub returns-then-not-is_done : goal.returns-then-not-is_done
returns-then-not-is_done c =
    sym (all_below_fails (is_done c.args.problem.now c.args.partial.now.marks) (length c.args.problem.now.items) c.loop-place.place
    (sym c.is_done.ensures ∙ c.if-not-is_done.true) (omega (arith, c.loop-place-test.true, c.items-place-end.ensures.count)))
