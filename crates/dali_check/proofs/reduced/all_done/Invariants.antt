use Rattle.std.proofs.Common.{◌≡◌, true}
use Rattle.dali_problem.specs.Rules.{all_below}
use Rattle.dali_check.proofs.Reducing.{is_done}
use Rattle.dali_check.proofs.reduced.all_done.Given as goal

abbrev pub invariant-loop-place : goal.invariant-loop-place
invariant-loop-place l = record { done : all_below (is_done l.problem l.partial.marks) l.place ≡ true }
