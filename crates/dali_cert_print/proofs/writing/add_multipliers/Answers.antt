use Rattle.dali_cert_print.specs.Rows.{multiplier_field}
use Rattle.dali_cert_print.proofs.Printed.{commas_told}
use Rattle.dali_cert_print.proofs.writing.add_multipliers.Goals as goal

pub returns : goal.returns
returns c = commas_told multiplier_field c.args.lam.now c.loop-multiplier.multiplier-index c.loop-multiplier.text c.args.text.now (c.loop-multiplier-test.false) c.loop-multiplier.invariant
