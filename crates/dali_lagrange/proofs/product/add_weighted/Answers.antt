use Rattle.std.proofs.Common.{◌≡◌, ◌*◌, ◌^◌, arith}
use Rattle.std.proofs.lemmas.Int.{ints}
use mir.Syntax.{w128}
use mir.Val.{to_z, of_z}
use Rattle.dali_lagrange.proofs.Sizes.{product_small}
use Rattle.dali_lagrange.proofs.product.add_weighted.Goals as goal

pub plus-requires-clause-more : goal.plus-requires-clause-more
plus-requires-clause-more c =
    let stored : to_z w128 (of_z w128 c.weighted-more.result) ≡ c.weighted-more.result = omega (arith, ints, c.weighted-more.type_inv) in
    let small = product_small c.args.factor (8 * 10 ^ 15) c.args.effect.now.amount c.requires.factor c.requires.amount in
    record { low = omega (arith, ints, stored, c.weighted-more.ensures, small.low); high = omega (arith, ints, stored, c.weighted-more.ensures, small.high) }

pub returns : goal.returns
returns c =
    let stored : to_z w128 (of_z w128 c.weighted-more.result) ≡ c.weighted-more.result = omega (arith, ints, c.weighted-more.type_inv) in
    omega (arith, ints, stored, c.weighted-more.ensures, c.plus.ensures)
