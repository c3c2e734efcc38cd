use Rattle.std.proofs.Common.{◌≡◌, ℕ, ◌<◌, get_or}
use Rattle.dali_lagrange.specs.KeptSum.{IsSumOf}
use Rattle.dali_lagrange.specs.Listed.{IsNext}
use Rattle.dali_lagrange.specs.Multipliers.{multiplier}
use Rattle.dali_lagrange.proofs.kept.Kept.load.Given as goal

abbrev pub invariant-loop-line : goal.invariant-loop-line
invariant-loop-line l = record {
  marks : l.self.marks ≡ l.fn.self.marks;
  of : IsSumOf l.problem l.self;
  next : IsNext l.listed l.next l.line;
  loaded : (k : ℕ) → k < l.line → get_or l.self.multipliers k 0 ≡ multiplier l.lam k;
}
