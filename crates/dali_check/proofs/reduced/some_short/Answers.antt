use Rattle.std.proofs.Common.{not, length, ap, sym, ◌∙◌, arith}
use Rattle.dali_problem.specs.Rules.{is_short}
use Rattle.dali_check.proofs.Reducing.{all_below_fails}
use Rattle.dali_check.proofs.reduced.some_short.Goals as goal

pub returns-then-is_short : goal.returns-then-is_short
returns-then-is_short c =
    let p = c.args.problem.now in
    sym (ap not (all_below_fails (λ l. not (is_short p c.args.partial.now.marks l)) (length p.lines) c.loop-line.line
    (ap not (sym (c.is_short.ensures p c.requires) ∙ c.if-is_short.true))
    (omega (arith, c.loop-line-test.true, c.lines-line-end.ensures.count))))
