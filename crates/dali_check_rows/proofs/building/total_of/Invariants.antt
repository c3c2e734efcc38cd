use Rattle.std.proofs.Common.{◌≡◌, take, sum_by}
use Rattle.dali_problem.specs.Clearing.{Item}
use Rattle.dali_check_rows.proofs.building.total_of.Given as goal

abbrev pub invariant-loop-place : goal.invariant-loop-place
invariant-loop-place l = record { sum : l.total ≡ sum_by (λ (item : Item). item.value) (take l.place l.problem.items) }
