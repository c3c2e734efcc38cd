use Rattle.std.proofs.Common.{◌≡◌, length, take}
use Rattle.dali_replica.specs.Intake.{Midway, reach_of}
use Rattle.dali_replica.proofs.head.read_head.Given as goal

abbrev pub invariant-loop-at : goal.invariant-loop-at
invariant-loop-at g l = record {
  midway : Midway g.S.Source.tells (reach_of l.fn.intake (g.S.Source.feed l.fn.source)) (take l.at l.head) (reach_of l.intake (g.S.Source.feed l.source));
  long : length l.head ≡ 12;
  quiet : (g.S.Source.feed l.source).faults ≡ (g.S.Source.feed l.fn.source).faults;
}
