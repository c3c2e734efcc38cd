use Rattle.std.proofs.Common.{not, ap, sym, ◌∙◌}
use Rattle.dali_check.proofs.Reducing.{none_short, short_reduced}
use Rattle.dali_check.proofs.reduced.is_reduced.Goals as goal

pub all_done-requires-clause-long : goal.all_done-requires-clause-long
all_done-requires-clause-long c = none_short c.args.problem.now c.args.partial.now.marks (sym c.some_short.ensures ∙ c.if-some_short.false)

pub returns-then-some_short : goal.returns-then-some_short
returns-then-some_short c =
    ap not c.is_open.ensures
    ∙ short_reduced c.args.problem.now c.args.partial.now.marks c.requires.marks (sym c.some_short.ensures ∙ c.if-some_short.true)
