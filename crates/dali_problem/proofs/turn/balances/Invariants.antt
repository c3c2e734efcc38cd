use Rattle.std.proofs.Common.{◌≡◌, ℕ, ◌<◌, pos}
use Rattle.dali_problem.specs.Clearing.{balance}
use Rattle.dali_problem.specs.Kept.{sum_at}
use Rattle.dali_problem.proofs.turn.balances.Given as goal

abbrev pub invariant-loop-line : goal.invariant-loop-line
invariant-loop-line l = (k : ℕ) → k < l.line → sum_at l.sums k ≡ record { held = balance l.problem k; credits = pos 0; debits = pos 0 }
