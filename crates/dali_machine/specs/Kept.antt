use Rattle.std.specs.Prelude.{◌≡◌, ℕ, ◌≤◌, pos, List, true, false}
use Rattle.std.specs.List.{All, IsDistinct}
use Rattle.dali_account.specs.Book.{BookRecord, has_account, has_asset, total_of}
use Rattle.dali_base.specs.Limits.{most_total}
use Rattle.dali_base.specs.Readers.{same_bytes}
use Rattle.dali_account.specs.Units.{PairKey, units_of}
use Rattle.dali_ledger.specs.Postings.{delta_sum}
use Rattle.dali_queue.specs.declared.instruction.Instruction.{Instruction}
use Rattle.dali_machine.specs.Machine.{Machine}

-- both parties of the instruction are accounts of the book, and its code is an asset
pub record AreKnown (book : BookRecord) (i : Instruction) : Type 0 where
  pub giver : has_account book.accounts i.giver ≡ true
  pub taker : has_account book.accounts i.taker ≡ true
  pub code : has_asset book.codes i.code ≡ true

-- what holds of every state: each balance is the sum of its pair's postings, only accounts have balances and earmarks, no
-- total is above 10^18, each code has a price, and the queue names only what the book has
pub record IsMachine (m : Machine) : Type 0 where
  pub matched : (pair : PairKey) → delta_sum m.postings pair ≡ pos (units_of m.book.balances pair)
  pub owned : (pair : PairKey) → has_account m.book.accounts pair.0 ≡ false → units_of m.book.balances pair ≡ 0
  pub earmarked : (pair : PairKey) → has_account m.book.accounts pair.0 ≡ false → units_of m.book.earmarks pair ≡ 0
  pub distinct : IsDistinct same_bytes m.book.accounts
  pub limit : (asset : List ℕ) → total_of m.book asset ≤ most_total
  pub prices : All (λ c. 1 ≤ c.1) m.book.codes
  pub known : All (λ w. AreKnown m.book w.item) m.queue.waiting
