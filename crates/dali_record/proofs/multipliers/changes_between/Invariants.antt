use Rattle.std.proofs.Common.{◌+◌, length}
use Rattle.dali_record.specs.Multipliers.{Rises, at_line, multiplier}
use Rattle.dali_record.proofs.MergeLemmas.{Merged}
use Rattle.dali_record.proofs.multipliers.changes_between.Given as goal

abbrev pub invariant-loop-line : goal.invariant-loop-line
invariant-loop-line l = Rises 0 4096 l.fn.above → Rises 0 4096 l.fn.own →
    Merged (at_line l.fn.above) (at_line l.fn.own) (multiplier l.fn.above) (multiplier l.fn.own) l.found l.above_left l.own_left

abbrev pub decreases-loop-line : goal.decreases-loop-line
decreases-loop-line l = length l.above_left + length l.own_left
