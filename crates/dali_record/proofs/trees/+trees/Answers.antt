use Rattle.dali_record.specs.Multipliers.{multiplier}
use Rattle.dali_record.proofs.TreeSteps.{end_flat, end_deep, branch_spent, branch_some}
use Rattle.dali_record.proofs.trees.+trees.Goals as goal

pub end_of-returns-then-depth-eq0 : goal.end_of-returns-then-depth-eq0
end_of-returns-then-depth-eq0 t c = rw (end_flat c.args.depth c.args.left (multiplier c.args.above.now) c.args.bytes.now c.if-depth-eq0.true) c.flat_end_of.ensures

pub end_of-returns : goal.end_of-returns
end_of-returns t c = rw (end_deep c.args.depth c.args.left (multiplier c.args.above.now) c.args.bytes.now c.if-depth-eq0.false) c.deep_end_of.ensures

pub any_branch_of-returns-then-left-eq0 : goal.any_branch_of-returns-then-left-eq0
any_branch_of-returns-then-left-eq0 t c = branch_spent c.args.depth c.args.left (multiplier c.args.above.now) c.args.bytes.now c.if-left-eq0.true

pub any_branch_of-returns : goal.any_branch_of-returns
any_branch_of-returns t c = rw (branch_some c.args.depth c.args.left (multiplier c.args.above.now) c.args.bytes.now c.if-left-eq0.false) c.branch_of.ensures
