use Rattle.std.proofs.Common.{◌≡◌, ℕ, ◌<◌}
use Rattle.dali_problem.specs.Partial.{mark}
use Rattle.dali_check.specs.Room.{IsReady, as_member}
use Rattle.dali_check.proofs.standing.align.Given as goal

abbrev pub invariant-loop-place : goal.invariant-loop-place
invariant-loop-place l = record {
  ready : IsReady l.problem l.kept;
  aligned : (k : ℕ) → k < l.place → mark l.kept.marks k ≡ as_member (mark l.partial.marks k);
}
