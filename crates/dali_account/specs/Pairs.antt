use Rattle.std.specs.Prelude.{ℕ, ◌&&◌, ◌==◌, not, Bool, List, map}
use Rattle.std.specs.List.{filter}
use Rattle.std.specs.FinMap as finite
use Rattle.dali_base.specs.Readers.{same_bytes}
use Rattle.dali_account.specs.declared.pairs.Pair.{Pair}
use Rattle.dali_account.specs.Units.{PairKey}
use Rattle.dali_account.specs.Book.{BookRecord}

-- the balance is the account's, and not 0
abbrev pub is_held_by : List ℕ → PairKey × ℕ → Bool
is_held_by account e = same_bytes e.0.0 account && not (e.1 == 0)

abbrev pub pair_at : PairKey × ℕ → Pair
pair_at e = record { asset = e.0.1; balance = e.1 }

-- the balances of an account other than 0, in the order of the map, which is byte order of asset under one account
abbrev pub pairs_of : BookRecord → List ℕ → List Pair
pairs_of b account = map pair_at (filter (is_held_by account) (finite.entries b.balances))
