use Rattle.std.specs.Prelude.{decimal}
use Rattle.dali_cert_print.proofs.Printed.{commas_told}
use Rattle.dali_cert_print.proofs.writing.add_places.Goals as goal

pub returns : goal.returns
returns c = commas_told decimal c.args.places.now c.loop-place.place-index c.loop-place.text c.args.text.now (c.loop-place-test.false) c.loop-place.invariant
