use Rattle.std.proofs.Common.{◌≡◌, ℕ, ◌<◌, ◌≤ℤ◌, ◌<ℤ◌, true, false}
use Rattle.dali_lagrange.specs.KeptSum.{IsSumOf}
use Rattle.dali_lagrange.specs.Still.{IsStillAt}
use Rattle.dali_lagrange.proofs.kept.Kept.pass.Given as goal

abbrev pub invariant-loop-line : goal.invariant-loop-line
invariant-loop-line l = record {
  marks : l.self.marks ≡ l.fn.self.marks;
  of : IsSumOf l.problem l.self;
  not_above : l.self.total ≤ℤ l.fn.self.total;
  gained : l.gained ≡ true → l.self.total <ℤ l.fn.self.total;
  same : l.gained ≡ false → l.self ≡ l.fn.self;
  still : l.gained ≡ false → (k : ℕ) → k < l.line → IsStillAt l.problem l.fn.self.marks l.fn.self.multipliers l.fn.self.total k;
}
