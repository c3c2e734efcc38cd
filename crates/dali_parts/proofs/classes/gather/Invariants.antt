use Rattle.std.proofs.Common.{◌≡◌, ℕ, ◌<◌, length}
use Rattle.dali_parts.specs.Flood.{part_at, members_below}
use Rattle.dali_parts.proofs.classes.gather.Given as goal

abbrev pub invariant-loop-place : goal.invariant-loop-place
invariant-loop-place l = record {
  size : length l.parts.items ≡ l.count;
  parts : (c : ℕ) → c < l.count → part_at l.parts.items c ≡ members_below l.classes c l.place;
}
