use Rattle.std.proofs.Common.{◌≡◌, false, get_or}
use Rattle.dali_restrict.specs.Below.{places_below}
use Rattle.dali_parts.proofs.solving.marked.Given as goal

abbrev pub invariant-loop-at : goal.invariant-loop-at
invariant-loop-at l = record {
  so_far : l.places ≡ places_below (λ j. get_or l.marks j false) l.at;
}
