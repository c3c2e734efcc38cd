use Rattle.std.proofs.Common.{◌≡◌}
use Rattle.dali_search.specs.Start.{all_places}
use Rattle.dali_search.proofs.places.all_places.Given as goal

abbrev pub invariant-loop-place : goal.invariant-loop-place
invariant-loop-place l = record { so_far : l.places ≡ all_places l.place }
