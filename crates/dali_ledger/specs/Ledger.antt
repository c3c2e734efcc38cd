use Rattle.std.specs.Prelude.{ℕ, List}
use Rattle.dali_ledger.specs.declared.posting.Posting.{Posting}

-- the postings, and for how many more there is room
pub record LedgerState : Type 0 where
  pub postings : List Posting
  pub spare : ℕ
