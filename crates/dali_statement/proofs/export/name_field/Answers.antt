use Rattle.std.proofs.Common.{◌∙◌, ap}
use Rattle.csv.specs.Writing.{default_writer, needs_quotes}
use Rattle.dali_statement.proofs.PlainLemmas.{plain_name}
use Rattle.dali_statement.proofs.export.name_field.Goals as goal

pub returns-clause-plain : goal.returns-clause-plain
returns-clause-plain c = ap (needs_quotes default_writer) c.bytes.ensures.bytes ∙ plain_name c.args.name.now c.bytes.ensures.name
