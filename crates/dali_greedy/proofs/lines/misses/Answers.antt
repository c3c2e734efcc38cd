use Rattle.std.proofs.Common.{◌≡◌, ap, arith, ℤ, ◌+ℤ◌, ◌-ℤ◌, to_z, of_z}
use Rattle.std.proofs.lemmas.Int.{ints}
use Rattle.std.specs.Int.{w128}
use Rattle.dali_problem.specs.Rules.{is_negative}
use Rattle.dali_greedy.proofs.lines.misses.Goals as goal

pub returns : goal.returns
returns c =
    let far : ℤ = to_z w128 (of_z w128 (to_z w128 (of_z w128 (to_z w128 (of_z w128 c.args.has.now) +ℤ to_z w128 (of_z w128 c.from.result))) -ℤ to_z w128 (of_z w128 c.from-2.result))) in
    let same : far ≡ c.args.has.now +ℤ c.args.effect.now.amount -ℤ c.args.amount.now =
    omega (arith, ints, c.requires.low, c.requires.high, c.from.type_inv, c.from-2.type_inv, c.from.ensures, c.from-2.ensures) in
    ap is_negative same
