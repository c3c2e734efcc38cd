use Rattle.std.proofs.Common.{◌≡◌, ◌≤ℤ◌}
use Rattle.dali_lagrange.specs.KeptSum.{IsSumOf}
use Rattle.dali_lagrange.proofs.Downward.{height}
use Rattle.dali_lagrange.proofs.kept.Kept.improve.Given as goal

abbrev pub invariant-loop-self : goal.invariant-loop-self
invariant-loop-self l = record {
  marks : l.self.marks ≡ l.fn.self.marks;
  of : IsSumOf l.problem l.self;
  not_above : l.self.total ≤ℤ l.fn.self.total;
}

abbrev pub decreases-loop-self : goal.decreases-loop-self
decreases-loop-self l = height l.self.total
