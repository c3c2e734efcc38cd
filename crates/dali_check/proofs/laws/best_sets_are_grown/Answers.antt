use Rattle.dali_check.proofs.Bests.{best_grown}
use Rattle.dali_check.proofs.laws.best_sets_are_grown.Goals as goal

pub returns : goal.returns
returns c s best = best_grown c.args.problem.now s c.items-items.ensures.bounds best
