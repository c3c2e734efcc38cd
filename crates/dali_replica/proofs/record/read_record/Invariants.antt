use Rattle.std.proofs.Common.{◌≡◌, ◌≤◌, ◌-◌, ℕ, List, ◌++◌, length}
use Rattle.dali_line.specs.Lines.{Reach}
use Rattle.dali_replica.specs.Intake.{Midway, reach_of}
use Rattle.dali_replica.proofs.record.read_record.Given as goal

abbrev pub invariant-loop-intake : goal.invariant-loop-intake
invariant-loop-intake g l = record {
  midway : (old : Reach) (used : List ℕ) → Midway g.S.Source.tells old used (reach_of l.fn.intake (g.S.Source.feed l.fn.source)) →
      Midway g.S.Source.tells old (used ++ l.bytes) (reach_of l.intake (g.S.Source.feed l.source));
  size : length l.bytes ≤ l.size;
  quiet : (g.S.Source.feed l.source).faults ≡ (g.S.Source.feed l.fn.source).faults;
}

abbrev pub decreases-loop-intake : goal.decreases-loop-intake
decreases-loop-intake g l = l.size - length l.bytes
