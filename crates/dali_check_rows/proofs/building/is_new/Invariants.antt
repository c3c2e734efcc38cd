use Rattle.std.proofs.Common.{◌≢◌, ℕ, ◌<◌}
use Rattle.dali_problem.specs.Clearing.{item_at}
use Rattle.dali_check_rows.proofs.building.is_new.Given as goal

abbrev pub invariant-loop-place : goal.invariant-loop-place
invariant-loop-place l = record { others : (k : ℕ) → k < l.place → (item_at l.problem k).id ≢ l.id }
