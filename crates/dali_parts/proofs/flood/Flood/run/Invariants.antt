use Rattle.std.proofs.Common.{◌≡◌, ◌+◌, Some, length}
use Rattle.dali_parts.specs.Flood.{class_at, IsFlooding, Grows, open_count}
use Rattle.dali_parts.proofs.flood.Flood.run.Given as goal

abbrev pub invariant-loop-place : goal.invariant-loop-place
invariant-loop-place l = record {
  flooding : IsFlooding l.problem l.class l.self.classes.items l.self.seen.items l.self.pending.items;
  grows : Grows l.class l.fn.self.classes.items l.self.classes.items;
  start : class_at l.self.classes.items l.start ≡ Some l.class;
}

abbrev pub decreases-loop-place : goal.decreases-loop-place
decreases-loop-place l = open_count l.self.classes.items + length l.self.pending.items
