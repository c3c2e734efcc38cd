use Rattle.dali_lagrange.proofs.Narrowing.{best_of, still_own}
use Rattle.dali_lagrange.proofs.kept.Kept.bracket.Goals as goal

pub returns-clause-none : goal.returns-clause-none
returns-clause-none c =
    still_own c.args.problem.now c.args.self.now c.args.line c.multiplier-at.result c.requires.of c.multiplier-at.ensures.value
    (best_of c.args.problem.now c.args.self.now.marks c.args.self.now.multipliers c.args.line c.multiplier-at.result c.multiplier-at.ensures.bounded
    (c.rises_to.ensures.falls c.if-rises_to.false) (c.falls_from.ensures.rises c.if-falls_from.false))
