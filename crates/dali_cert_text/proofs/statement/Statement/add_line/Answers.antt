use Rattle.std.proofs.Common.{sym, ◌∙◌}
use Rattle.dali_cert_text.proofs.MayLaws.{line_may}
use Rattle.dali_cert_text.proofs.statement.Statement.add_line.Goals as goal

pub add_line-requires-clause-no_items : goal.add_line-requires-clause-no_items
add_line-requires-clause-no_items c = (line_may c.self.inside.problem c.args.line (sym c.may_line.ensures ∙ c.if-not-may_line.false)).no_items

pub add_line-requires-clause-few : goal.add_line-requires-clause-few
add_line-requires-clause-few c = (line_may c.self.inside.problem c.args.line (sym c.may_line.ensures ∙ c.if-not-may_line.false)).few

pub add_line-requires-clause-after : goal.add_line-requires-clause-after
add_line-requires-clause-after c = (line_may c.self.inside.problem c.args.line (sym c.may_line.ensures ∙ c.if-not-may_line.false)).after
