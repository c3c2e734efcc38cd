use Rattle.std.proofs.Common.{◌≡◌, ◌-◌, ◌++◌, length}
use Rattle.dali_plain.specs.Masks.{places_from, places_of}
use Rattle.dali_plain.proofs.masks.places_of_mask.Given as goal

abbrev pub invariant-loop-place : goal.invariant-loop-place
invariant-loop-place l = record {
  whole : l.places ++ places_from (length l.problem.items - l.place) l.place l.left ≡ places_of l.problem l.mask;
}
