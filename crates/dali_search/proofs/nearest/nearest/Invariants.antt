use Rattle.dali_search.specs.Nearest.{FoundBelow}
use Rattle.dali_search.proofs.nearest.nearest.Given as goal

abbrev pub invariant-loop-place : goal.invariant-loop-place
invariant-loop-place l = record { found : FoundBelow l.problem l.lam l.partial.marks l.place l.found }
