use Rattle.std.proofs.Common.{arith}
use Rattle.dali_cert_print.specs.Block.{item_row}
use Rattle.dali_cert_print.proofs.Printed.{texts_told}
use Rattle.dali_cert_print.proofs.printing.add_items.Goals as goal

pub returns : goal.returns
returns c = texts_told item_row c.args.problem.now.items c.loop-place.place c.loop-place.text c.args.text.now (omega (arith, c.loop-place-test.false, c.items-place-end.ensures.count)) c.loop-place.invariant
