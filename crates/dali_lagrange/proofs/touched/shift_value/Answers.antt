use Rattle.std.proofs.Common.{◌≡◌, ◌^◌, arith}
use Rattle.std.proofs.lemmas.Int.{ints}
use mir.Syntax.{w128}
use mir.Val.{to_z, of_z}
use Rattle.dali_lagrange.proofs.Sizes.{product_within}
use Rattle.dali_lagrange.proofs.touched.shift_value.Goals as goal

pub plus-requires-clause-more : goal.plus-requires-clause-more
plus-requires-clause-more c =
    let stored : to_z w128 (of_z w128 c.times-more.result) ≡ c.times-more.result = omega (arith, ints, c.times-more.type_inv) in
    let small = product_within (2 ^ 44) (2 ^ 58) c.args.by.now c.args.amount.now c.requires.by c.requires.amount in
    record { low = omega (arith, ints, stored, c.times-more.ensures, small.low); high = omega (arith, ints, stored, c.times-more.ensures, small.high) }

pub returns : goal.returns
returns c =
    let stored : to_z w128 (of_z w128 c.times-more.result) ≡ c.times-more.result = omega (arith, ints, c.times-more.type_inv) in
    let small = product_within (2 ^ 44) (2 ^ 58) c.args.by.now c.args.amount.now c.requires.by c.requires.amount in
    omega (arith, ints, stored, c.times-more.ensures, c.plus.ensures, small.low, small.high, c.requires.value.low, c.requires.value.high)
