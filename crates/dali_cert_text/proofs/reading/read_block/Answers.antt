use Rattle.dali_cert_text.proofs.Forming.{only_by, only_block}
use Rattle.dali_cert_text.proofs.reading.read_block.Goals as goal

pub returns-clause-only : goal.returns-clause-only
returns-clause-only c = only_by c.args.bytes.now c.read_spelled.result c.read_spelled.ensures.found c.read_spelled.ensures.form

pub returns-clause-one : goal.returns-clause-one
returns-clause-one c = only_block c.args.bytes.now
