use Rattle.dali_cert_print.specs.Block.{part_rows}
use Rattle.dali_cert_print.proofs.Printed.{texts_told_each}
use Rattle.dali_cert_print.proofs.printing.add_parts.Goals as goal

pub returns : goal.returns
returns c = texts_told_each part_rows c.args.parts.now c.loop-part.part-index c.loop-part.text c.args.text.now (c.loop-part-test.false) c.loop-part.invariant
