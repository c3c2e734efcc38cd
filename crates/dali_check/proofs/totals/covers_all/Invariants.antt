use Rattle.std.proofs.Common.{◌≡◌, ◌≤◌, ◌*◌, ◌+◌, ◌^◌}
use Rattle.dali_check.proofs.totals.covers_all.Given as goal

abbrev pub invariant-loop-place : goal.invariant-loop-place
invariant-loop-place l = record {
  sets : l.sets ≡ 2 ^ l.place;
  most : l.sets ≤ 2 * (l.budget + 1);
}
