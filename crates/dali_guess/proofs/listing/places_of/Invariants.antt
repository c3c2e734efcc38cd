use Rattle.dali_guess.proofs.Rising.{RisesBelow}
use Rattle.dali_guess.proofs.listing.places_of.Given as goal

abbrev pub invariant-loop-place : goal.invariant-loop-place
invariant-loop-place l = record { rises : RisesBelow l.place l.places }
