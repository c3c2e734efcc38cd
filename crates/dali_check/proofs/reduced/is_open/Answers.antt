use Rattle.std.proofs.Common.{not, length, ap, sym, ◌∙◌, arith}
use Rattle.dali_problem.specs.Partial.{mark, is_undecided}
use Rattle.dali_check.specs.Lean.{is_open}
use Rattle.dali_check.proofs.Reducing.{all_below_fails}
use Rattle.dali_check.proofs.reduced.is_open.Goals as goal

pub returns-then-is_undecided : goal.returns-then-is_undecided
unfolding is_open
returns-then-is_undecided c =
    sym (ap not (all_below_fails (λ j. not (is_undecided (mark c.args.partial.now.marks j))) (length c.args.problem.now.items) c.loop-place.place
    (ap not (sym (ap is_undecided c.mark.ensures) ∙ sym c.is_undecided.ensures ∙ c.if-is_undecided.true))
    (omega (arith, c.loop-place-test.true, c.items-place-end.ensures.count))))
