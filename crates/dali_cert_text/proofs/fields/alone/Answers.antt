use Rattle.dali_cert_text.proofs.Pieces.{not_empty}
use Rattle.dali_cert_text.proofs.fields.alone.Goals as goal

pub returns-else-is_empty : goal.returns-else-is_empty
returns-else-is_empty g c = not_empty c.args.rest.now c.args.value c.if-is_empty.ensures
