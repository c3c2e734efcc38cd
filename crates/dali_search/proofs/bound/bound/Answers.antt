use Rattle.std.proofs.Common.{arith}
use Rattle.std.proofs.lemmas.Int.{ints}
use Rattle.dali_search.proofs.Falling.{closes_from, reaches_from}
use Rattle.dali_search.proofs.Offers.{zero_small}
use Rattle.dali_search.proofs.bound.bound.Goals as goal

pub floor-requires : goal.floor-requires
floor-requires c =
    omega (arith, ints, c.sum_of_lam.ensures.exact, c.requires.under, zero_small c.args.problem.now c.args.partial.now.marks c.items-items.ensures.bounds)

pub returns-clause-above : goal.returns-clause-above
returns-clause-above c =
    closes_from c.args.problem.now c.floor.result c.args.lam.now c.args.partial.now.marks (omega (arith, ints, c.sum_of_lam.ensures.exact, c.floor.ensures.above))

pub returns-clause-least : goal.returns-clause-least
returns-clause-least c some =
    reaches_from c.args.problem.now c.floor.result c.args.lam.now c.args.partial.now.marks (omega (arith, ints, c.sum_of_lam.ensures.exact, c.floor.ensures.least some))
