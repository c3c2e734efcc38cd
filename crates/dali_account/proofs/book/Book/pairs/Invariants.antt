use Rattle.std.proofs.Common.{◌≡◌, ◌++◌, map}
use Rattle.dali_account.proofs.PairListLemmas.{named}
use Rattle.dali_account.proofs.book.Book.pairs.Given as goal

abbrev pub invariant-loop-asset : goal.invariant-loop-asset
invariant-loop-asset l = l.pairs ++ map named l.asset-iterator ≡ map named l.initial.asset-iterator
