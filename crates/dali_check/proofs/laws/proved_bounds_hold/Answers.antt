use Rattle.dali_check.proofs.Bounded.{tree_most}
use Rattle.dali_check.proofs.laws.proved_bounds_hold.Goals as goal

pub returns : goal.returns
returns c bound tree f size told t places feasible agrees =
    tree_most c.args.problem.now bound tree f t c.items-items.ensures.bounds size told places feasible agrees
