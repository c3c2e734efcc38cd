use Rattle.std.proofs.Common.{◌≡◌, ℕ, ◌<◌, length}
use Rattle.dali_problem.specs.Touches.{touches_below, column_at}
use Rattle.dali_problem.proofs.enter.enter_items.Given as goal

abbrev pub invariant-loop-place : goal.invariant-loop-place
invariant-loop-place l = (k : ℕ) → k < length l.columns → column_at l.columns k ≡ touches_below l.problem k l.place
