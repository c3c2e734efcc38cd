use Rattle.std.proofs.Common.{◌-◌}
use Rattle.dali_lagrange.specs.Best.{IsBracket}
use Rattle.dali_lagrange.proofs.kept.Kept.best_within.Given as goal

abbrev pub invariant-search : goal.invariant-search
invariant-search l = record { bracket : IsBracket l.problem l.self.marks l.self.multipliers l.line l.low l.high }

abbrev pub decreases-search : goal.decreases-search
decreases-search l = l.high - l.low
