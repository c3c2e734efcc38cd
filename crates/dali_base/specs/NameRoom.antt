use Rattle.std.specs.Prelude.{◌≡◌, ◌<◌, ◌^◌, length, true, is_some, nat_eq}
use Rattle.std.specs.List.{IsDistinct}
use Rattle.std.specs.Cmp.Lexicographic.{pointwise}
use Rattle.indexmap.specs.IndexSet.{spare}
use Rattle.dali_base.specs.NameList.{NameList}
use Rattle.dali_base.specs.declared.names.Names.TheInside.{Inside}

abbrev pub list_of : Inside → NameList
list_of a = record { names = a.names.keys; readied = a.readied }

-- no name stands twice, places fit 32 bits, and there is room for a readied name
pub record HasRoom (a : Inside) : Type 0 where
  pub distinct : IsDistinct (pointwise nat_eq) a.names.keys
  pub few : length a.names.keys < 2 ^ 32
  pub room : is_some a.readied ≡ true → 0 < spare a.names
