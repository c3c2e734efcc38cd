use Rattle.std.proofs.Common.{◌∙◌, ap}
use Rattle.csv.specs.Writing.{default_writer, needs_quotes}
use Rattle.dali_statement.proofs.PlainLemmas.{plain_signed}
use Rattle.dali_statement.proofs.export.signed_field.Goals as goal

pub returns-clause-plain : goal.returns-clause-plain
returns-clause-plain c = ap (needs_quotes default_writer) (c.as_bytes.ensures.value ∙ c.requires) ∙ plain_signed c.args.z c.ranges.z
