use Rattle.dali_account.proofs.KeptLemmas.{kept_new}
use Rattle.dali_account.proofs.book.Book.new.Goals as goal

pub invariant_of-result : goal.invariant_of-result
invariant_of-result c = rw (c.new.ensures.names, c.new-2.ensures.listings, c.new-2.ensures.cash, c.new-2.ensures.readied, c.new-3.ensures.units, c.new-4.ensures.units) kept_new
