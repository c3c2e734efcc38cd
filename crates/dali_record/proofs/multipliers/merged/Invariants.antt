use Rattle.std.proofs.Common.{◌+◌, length}
use Rattle.dali_record.proofs.MergeLemmas.{Making}
use Rattle.dali_record.proofs.multipliers.merged.Given as goal

abbrev pub invariant-loop-line : goal.invariant-loop-line
invariant-loop-line l = Making l.fn.above l.fn.changes l.lam l.above_left l.changes_left

abbrev pub decreases-loop-line : goal.decreases-loop-line
decreases-loop-line l = length l.above_left + length l.changes_left
