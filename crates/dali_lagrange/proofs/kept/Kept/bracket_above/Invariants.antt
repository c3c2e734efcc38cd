use Rattle.std.proofs.Common.{◌-◌, ◌≤◌, ◌^◌}
use Rattle.dali_lagrange.specs.Best.{FallsTo}
use Rattle.dali_lagrange.proofs.kept.Kept.bracket_above.Given as goal

abbrev pub invariant-widen : goal.invariant-widen
invariant-widen l = record {
  within : l.low ≤ 2 ^ 44;
  falls : FallsTo l.problem l.self.marks l.self.multipliers l.line l.low;
}

abbrev pub decreases-widen : goal.decreases-widen
decreases-widen l = 2 ^ 44 - l.low
