use Rattle.std.proofs.Common.{◌≡◌, take, sum_by}
use Rattle.dali_problem.specs.Clearing.{worth}
use Rattle.dali_problem.proofs.problem.Problem.value_of.Given as goal

abbrev pub invariant-loop-place : goal.invariant-loop-place
invariant-loop-place l = l.total ≡ sum_by (worth l.self) (take l.place-index l.listed)
