use Rattle.std.proofs.Common.{◌≡◌, ℕ, ◌<◌, pos, slice_index_or}
use Rattle.dali_problem.specs.Clearing.{balance}
use Rattle.dali_greedy.proofs.lines.balances.Given as goal

abbrev pub invariant-loop-line : goal.invariant-loop-line
invariant-loop-line l = (k : ℕ) → k < l.line → slice_index_or l.has k (pos 0) ≡ balance l.problem k
