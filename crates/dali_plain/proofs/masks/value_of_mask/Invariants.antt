use Rattle.std.proofs.Common.{◌≡◌, ◌-◌, ◌+◌, length}
use Rattle.dali_problem.specs.Feasible.{value_of}
use Rattle.dali_plain.specs.Masks.{places_from, places_of}
use Rattle.dali_plain.proofs.masks.value_of_mask.Given as goal

abbrev pub invariant-loop-place : goal.invariant-loop-place
invariant-loop-place l = record {
  whole : l.total + value_of l.problem (places_from (length l.problem.items - l.place) l.place l.left) ≡ value_of l.problem (places_of l.problem l.mask);
}
