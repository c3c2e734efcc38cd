use Rattle.std.specs.Prelude.{◌≡◌, ◌<◌, true, is_some}
use Rattle.indexmap.specs.IndexMap.{spare}
use Rattle.dali_account.specs.AssetList.{AssetList}
use Rattle.dali_account.specs.declared.assets.Assets.TheInside.{Inside}

abbrev pub list_of : Inside → AssetList
list_of a = record { listings = a.listings.entries; cash_total = a.cash_total; readied = a.readied }

-- there is room for a readied code
pub record HasRoom (a : Inside) : Type 0 where
  pub room : is_some a.readied ≡ true → 0 < spare a.listings
