use Rattle.std.specs.Prelude.{◌≡◌, ℕ, ◌+◌, ◌≤◌, false, List, None, length, min}
use Rattle.std.specs.List.{IsDistinct}
use Rattle.dali_base.specs.Limits.{most_total}
use Rattle.dali_base.specs.Readers.{same_bytes}
use Rattle.dali_account.specs.Units.{Units, units_of}
use Rattle.dali_account.specs.Book.{BookState, cash, has_account, price_of, held}
use Rattle.dali_account.specs.Limits.{most_accounts, most_codes}
use Rattle.dali_account.specs.AssetList.{AssetList, prices, total_at}
use Rattle.dali_account.specs.declared.book.Book.TheInside.{Inside}

-- the running totals are the sums, at most 10^18 each, only accounts hold units, and cash isn't among the codes
pub record IsBalanced (accounts : List (List ℕ)) (assets : AssetList) (balances earmarks : Units) : Type 0 where
  pub distinct : IsDistinct same_bytes accounts
  pub accounts_fit : length accounts ≤ most_accounts
  pub codes_fit : length assets.listings ≤ most_codes
  pub cash_apart : price_of (prices assets.listings) cash ≡ None
  pub totals : (asset : List ℕ) → total_at assets asset ≡ held accounts balances earmarks asset
  pub limit : (asset : List ℕ) → total_at assets asset ≤ most_total
  pub known : (account asset : List ℕ) → has_account accounts account ≡ false → units_of balances (account, asset) + units_of earmarks (account, asset) ≡ 0

abbrev pub state_of : Inside → BookState
state_of a = record {
  book = record { accounts = a.accounts.names; codes = prices a.assets.listings; balances = a.balances.units; earmarks = a.earmarks.units };
  spare_lines = min a.balances.spare a.earmarks.spare;
  readied_account = a.accounts.readied;
  readied_code = a.assets.readied;
}

abbrev pub IsKept : Inside → Type 0
IsKept a = IsBalanced a.accounts.names a.assets a.balances.units a.earmarks.units
