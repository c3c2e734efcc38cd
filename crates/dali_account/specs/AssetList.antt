use Rattle.std.specs.Prelude.{ℕ, List, map, Option, if◌then◌else◌}
use Rattle.std.specs.Option.{option_map_or}
use Rattle.std.specs.Map.{lookup}
use Rattle.dali_base.specs.Readers.{same_bytes}
use Rattle.dali_account.specs.declared.assets.Listing.{Listing}
use Rattle.dali_account.specs.Book.{cash}

-- codes with their prices and totals in order of entry, the total of cash, and the readied code
pub record AssetList : Type 0 where
  pub listings : List (List ℕ × Listing)
  pub cash_total : ℕ
  pub readied : Option (List ℕ)

abbrev pub listing_of : AssetList → List ℕ → Option Listing
listing_of a code = lookup (same_bytes code) a.listings

-- the codes with their prices
abbrev pub prices : List (List ℕ × Listing) → List (List ℕ × ℕ)
prices listings = map (λ e. (e.0, e.1.price)) listings

abbrev pub total_at : AssetList → List ℕ → ℕ
total_at a asset = if same_bytes asset cash then a.cash_total else option_map_or (λ l. l.total) (listing_of a asset) 0
