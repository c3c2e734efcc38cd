use Rattle.std.proofs.Common.{subst}
use Rattle.dali_gateway.specs.Form.{IsFormPlace}
use Rattle.dali_desk.proofs.gate.gate_of.Goals as goal

pub returns-clause-form : goal.returns-clause-form
returns-clause-form c = λ k told. subst (λ bytes. IsFormPlace bytes k) c.bytes.ensures (c.read_gate.ensures.form k told)
