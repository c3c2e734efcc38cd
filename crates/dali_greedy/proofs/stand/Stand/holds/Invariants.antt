use Rattle.std.proofs.Common.{ℕ, ◌<◌, pos, ◌≤ℤ◌}
use Rattle.dali_problem.specs.Partial.{held}
use Rattle.dali_greedy.proofs.stand.Stand.holds.Given as goal

abbrev pub invariant-loop-line : goal.invariant-loop-line
invariant-loop-line l = (k : ℕ) → k < l.line → pos 0 ≤ℤ held l.problem l.self.marks k
