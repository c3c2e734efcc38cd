use Rattle.std.proofs.Common.{◌≡◌, ◌^◌, ◌<◌, ℕ, pos, ◌*ℤ◌, length}
use Rattle.std.specs.List.{All}
use Rattle.dali_problem.specs.Clearing.{worth}
use Rattle.dali_problem.specs.Limits.{Within}
use Rattle.dali_lagrange.specs.Touched.{reduced_in}
use Rattle.dali_lagrange.proofs.start.values.Given as goal

abbrev pub invariant-loop-place : goal.invariant-loop-place
invariant-loop-place l = record {
  size : length l.values.items ≡ l.place;
  exact : (j : ℕ) → j < l.place → reduced_in l.values.items j ≡ pos 4096 *ℤ pos (worth l.problem j);
  bounded : All (Within (2 ^ 103)) l.values.items;
}
