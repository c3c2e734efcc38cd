use Rattle.std.proofs.Common.{◌≡◌, ◌^◌, pos, arith}
use Rattle.std.proofs.lemmas.Int.{ints}
use mir.Syntax.{w128}
use mir.Val.{to_z, of_z}
use Rattle.dali_lagrange.proofs.Sizes.{product_small, natural_small}
use Rattle.dali_lagrange.proofs.product.add_scaled.Goals as goal

pub plus-requires-clause-more : goal.plus-requires-clause-more
plus-requires-clause-more c =
    let stored : to_z w128 (of_z w128 c.scaled-more.result) ≡ c.scaled-more.result = omega (arith, ints, c.scaled-more.type_inv) in
    let small = product_small c.args.factor (2 ^ 60) (pos c.args.amount) c.requires.factor (natural_small (2 ^ 60) c.args.amount c.requires.amount) in
    record { low = omega (arith, ints, stored, c.scaled-more.ensures, small.low); high = omega (arith, ints, stored, c.scaled-more.ensures, small.high) }

pub returns : goal.returns
returns c =
    let stored : to_z w128 (of_z w128 c.scaled-more.result) ≡ c.scaled-more.result = omega (arith, ints, c.scaled-more.type_inv) in
    omega (arith, ints, stored, c.scaled-more.ensures, c.plus.ensures)
