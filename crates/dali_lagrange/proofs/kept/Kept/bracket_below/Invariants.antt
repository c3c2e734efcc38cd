use Rattle.std.proofs.Common.{◌<◌, ◌≤◌, ◌^◌}
use Rattle.dali_lagrange.specs.Best.{RisesFrom}
use Rattle.dali_lagrange.proofs.kept.Kept.bracket_below.Given as goal

abbrev pub invariant-widen : goal.invariant-widen
invariant-widen l = record {
  within : l.high ≤ 2 ^ 44;
  some : 0 < l.reach;
  rises : RisesFrom l.problem l.self.marks l.self.multipliers l.line l.high;
}

abbrev pub decreases-widen : goal.decreases-widen
decreases-widen l = l.high
