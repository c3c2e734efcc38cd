use Rattle.std.proofs.Common.{arith}
use Rattle.std.proofs.lemmas.Int.{ints}
use Rattle.dali_lagrange.proofs.product.recount.Goals as goal

pub returns : goal.returns
returns c = omega (arith, ints, c.add_counted.ensures, c.take_counted.ensures)
