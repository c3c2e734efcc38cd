use Rattle.std.proofs.Common.{◌∙◌, ap, arith}
use Rattle.csv.specs.Writing.{default_writer, needs_quotes}
use Rattle.dali_statement.proofs.PlainLemmas.{plain_decimal}
use Rattle.dali_statement.proofs.export.number_field.Goals as goal

pub returns-clause-plain : goal.returns-clause-plain
returns-clause-plain c = ap (needs_quotes default_writer) (c.as_bytes.ensures.value ∙ c.requires) ∙ plain_decimal c.args.n (omega arith)
