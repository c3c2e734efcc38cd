use Rattle.std.proofs.Common.{ℕ, ◌<◌}
use Rattle.dali_lagrange.specs.Still.{IsStillAt}
use Rattle.dali_lagrange.proofs.kept.Kept.is_still.Given as goal

abbrev pub invariant-loop-line : goal.invariant-loop-line
invariant-loop-line l = (k : ℕ) → k < l.line → IsStillAt l.problem l.self.marks l.self.multipliers l.self.total k
