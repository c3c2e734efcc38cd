use Rattle.std.proofs.Common.{get_or, arith}
use Rattle.std.proofs.lemmas.Int.{ints}
use Rattle.dali_lagrange.specs.Multipliers.{multiplier}
use Rattle.dali_check.proofs.Points.{sum_at}
use Rattle.dali_search.proofs.bound.sum_of_lam.Goals as goal

pub returns-clause-exact : goal.returns-clause-exact
returns-clause-exact c =
    let same = sum_at c.args.problem.now c.args.partial.now.marks (λ l. get_or c.load.new.self l 0) (multiplier c.args.lam.now)
    (λ l below. c.load.ensures.multipliers l (omega (arith, below, c.load.ensures.lines, c.requires.point))) in
    omega (arith, ints, c.sum.ensures.exact, same)
