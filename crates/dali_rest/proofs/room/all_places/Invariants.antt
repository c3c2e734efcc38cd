use Rattle.std.proofs.Common.{ℕ, ◌<◌}
use Rattle.std.specs.List.{All, AllPairs, Contains}
use Rattle.dali_rest.proofs.room.all_places.Given as goal

abbrev pub invariant-loop-place : goal.invariant-loop-place
invariant-loop-place l = record {
  rising : AllPairs (λ i j. i < j) l.places;
  in_range : All (λ j. j < l.place) l.places;
  all : (j : ℕ) → j < l.place → Contains l.places j;
}
