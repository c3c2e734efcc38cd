use Rattle.std.proofs.Common.{take}
use Rattle.dali_queue.specs.CycleProblem.{may_settle}
use Rattle.dali_queue.specs.Eligible.{queue_with, waiting_of}
use Rattle.dali_queue.proofs.Gathering.{Gathered}
use Rattle.dali_queue.proofs.eligible.eligible_groups.Given as goal

abbrev pub invariant-loop-place : goal.invariant-loop-place
invariant-loop-place l = Gathered (may_settle (queue_with l.entries l.cutoffs) l.fn.moment) (waiting_of (take l.place l.entries)) l.eligible
