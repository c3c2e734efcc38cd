use Rattle.std.proofs.Common.{ℕ, ◌<◌, ◌≤◌}
use Rattle.dali_problem.specs.Feasible.{IsFeasible, value_of}
use Rattle.dali_plain.specs.Masks.{places_of, IsReached}
use Rattle.dali_plain.proofs.masks.best_of.Given as goal

abbrev pub invariant-loop-mask : goal.invariant-loop-mask
invariant-loop-mask l = record {
  reached : IsReached l.problem l.best;
  most : (m : ℕ) → m < l.mask → IsFeasible l.problem (places_of l.problem m) → value_of l.problem (places_of l.problem m) ≤ l.best;
}
