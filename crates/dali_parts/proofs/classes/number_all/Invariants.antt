use Rattle.std.proofs.Common.{◌≡◌, ◌≤◌, []}
use Rattle.dali_parts.specs.Flood.{AreNumbered}
use Rattle.dali_parts.proofs.classes.number_all.Given as goal

abbrev pub invariant-loop-place : goal.invariant-loop-place
invariant-loop-place l = record {
  numbered : AreNumbered l.problem l.flood.classes.items l.flood.seen.items l.place l.count;
  idle : l.flood.pending.items ≡ [];
  few : l.count ≤ l.place;
}
