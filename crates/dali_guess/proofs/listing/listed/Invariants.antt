use Rattle.dali_guess.proofs.Lists.{ListsBelow}
use Rattle.dali_guess.proofs.listing.listed.Given as goal

abbrev pub invariant-loop-line : goal.invariant-loop-line
invariant-loop-line l = record { lists : ListsBelow l.line l.lam }
