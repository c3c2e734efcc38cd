use Rattle.std.proofs.Common.{◌≡◌, ◌-◌, length, subst}
use Rattle.dali_gateway.specs.Form.{IsFormPlace}
use Rattle.dali_gateway.specs.declared.refusal.GateNo.TheVariants.{Form}
use Rattle.dali_gateway.proofs.Gates.{form_place, same_gate}
use Rattle.dali_gateway.proofs.Merging.{keeps_order}
use Rattle.dali_gateway.proofs.reading.read_gate.Goals as goal

pub returns-in-Ok-clause-order : goal.returns-in-Ok-clause-order
returns-in-Ok-clause-order c = keeps_order c.in-Ok.gate.inboxes c.in-Ok.gate.turns

pub returns-in-Ok-clause-only : goal.returns-in-Ok-clause-only
returns-in-Ok-clause-only c = λ inboxes turns spells.
    same_gate c.args.bytes.now c.in-Ok.gate.inboxes inboxes c.in-Ok.gate.turns turns c.in-Ok.ensures.found spells

pub returns-in-Err-Form-clause-form : goal.returns-in-Err-Form-clause-form
returns-in-Err-Form-clause-form c = λ k told.
    let place : length c.args.bytes.now - c.in-Err-Form.left ≡ k = let same : Form (length c.args.bytes.now - c.in-Err-Form.left) ≡ Form k = cc in cc in
    subst (IsFormPlace c.args.bytes.now) place (form_place c.args.bytes.now c.in-Err-Form.left (rw c.in-Err-Form.field-0-is at c.in-Err-Form.ensures.form))
