use Rattle.std.proofs.Common.{◌≡◌, ℕ, ◌<◌, false}
use Rattle.dali_problem.specs.Rules.{is_short}
use Rattle.dali_rest.proofs.room.Room.is_covered.Given as goal

abbrev pub invariant-loop-line : goal.invariant-loop-line
invariant-loop-line l = (k : ℕ) → k < l.line → is_short l.problem l.self.marks k ≡ false
