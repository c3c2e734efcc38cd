use Rattle.std.proofs.Common.{◌≡◌, ℕ, false, take, get_or}
use Rattle.std.specs.List.{filter}
use Rattle.dali_problem.specs.Feasible.{value_of}
use Rattle.dali_check.proofs.totals.marked_value.Given as goal

abbrev pub invariant-loop-place : goal.invariant-loop-place
invariant-loop-place l = record {
  total : l.total ≡ value_of l.problem (filter (λ (j : ℕ). get_or l.marks j false) (take l.place-index l.members));
}
