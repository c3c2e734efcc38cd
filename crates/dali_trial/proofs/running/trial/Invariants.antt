use Rattle.std.proofs.Common.{length}
use Rattle.dali_trial.proofs.Looping.{IsUnder}
use Rattle.dali_trial.proofs.running.trial.Given as goal

abbrev pub invariant-loop-course : goal.invariant-loop-course
invariant-loop-course l = IsUnder l.n l.course l.lines

abbrev pub decreases-loop-course : goal.decreases-loop-course
decreases-loop-course l = length l.lines
