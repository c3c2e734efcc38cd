use Rattle.std.proofs.Common.{◌≡◌, ◌^◌, pos, arith}
use Rattle.std.proofs.lemmas.Int.{ints}
use mir.Syntax.{w128}
use mir.Val.{to_z, of_z}
use Rattle.dali_lagrange.proofs.Sizes.{product_within, natural_small}
use Rattle.dali_lagrange.proofs.product.add_balance.Goals as goal

pub plus-requires-clause-more : goal.plus-requires-clause-more
plus-requires-clause-more c =
    let stored : to_z w128 (of_z w128 c.rise_of-more.result) ≡ c.rise_of-more.result = omega (arith, ints, c.rise_of-more.type_inv) in
    let small = product_within (2 ^ 44) (2 ^ 60) c.args.by.now (pos c.args.amount) c.requires.by (natural_small (2 ^ 60) c.args.amount c.requires.amount) in
    record { low = omega (arith, ints, stored, c.rise_of-more.ensures, small.low); high = omega (arith, ints, stored, c.rise_of-more.ensures, small.high) }

pub returns : goal.returns
returns c =
    let stored : to_z w128 (of_z w128 c.rise_of-more.result) ≡ c.rise_of-more.result = omega (arith, ints, c.rise_of-more.type_inv) in
    omega (arith, ints, stored, c.rise_of-more.ensures, c.plus.ensures)
