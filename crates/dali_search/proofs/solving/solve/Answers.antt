use Rattle.dali_search.proofs.Concluding.{allowed_best}
use Rattle.dali_search.proofs.solving.solve.Goals as goal

pub returns-clause-best : goal.returns-clause-best
returns-clause-best c enough =
    allowed_best c.args.problem.now c.args.budget c.in_ok-choice.choice c.in_ok-choice.ensures.allowed c.in_ok-choice.ensures.least enough
