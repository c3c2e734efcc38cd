use Rattle.dali_cert_print.specs.Rows.{effect_field}
use Rattle.dali_cert_print.proofs.Printed.{commas_told}
use Rattle.dali_cert_print.proofs.writing.add_effects.Goals as goal

pub returns : goal.returns
returns c = commas_told effect_field c.args.effects.now c.loop-effect.effect-index c.loop-effect.text c.args.text.now (c.loop-effect-test.false) c.loop-effect.invariant
