use Rattle.dali_fixes.proofs.Safes.{safe_takes}
use Rattle.dali_fixes.proofs.laws.safe_exchanges.Goals as goal

pub returns : goal.returns
returns c f j size safe t places feasible agrees out =
    safe_takes c.args.problem.now f j t c.items-items.ensures.bounds size safe places feasible agrees out
