use Rattle.std.specs.Prelude.{◌≡◌, ℕ, ◌+◌, ◌-◌, List, [], ◌∷◌, Option, Some, None, length, take, min, slice_get, vec_len, vec_capacity, if◌then◌else◌}
use Rattle.std.specs.Map.{lookup}
use Rattle.std.specs.Option.{option_map, option_or}
use Rattle.indexmap.specs.IndexMap.{spare}
use Rattle.dali_base.specs.Readers.{same_bytes}
use Rattle.dali_ledger.specs.declared.places.Places.{Places}

-- the last place at which the account stands, counted from 0
abbrev pub last_place : List (List ℕ) → List ℕ → Option ℕ
last_place [] account = None
last_place (a ∷ rest) account = option_or (option_map (λ k. k + 1) (last_place rest account)) (if same_bytes a account then Some 0 else None)

-- for how many more postings there is room
abbrev pub room_of : Places → ℕ
room_of p = min (vec_capacity p.befores - vec_len p.befores) (spare p.lasts)

-- kept are the places of postings of these accounts
pub record PlacesOf (p : Places) (accounts : List (List ℕ)) : Type 0 where
  pub len : length p.befores.items ≡ length accounts
  pub befores : (k : ℕ) (account : List ℕ) → slice_get accounts k ≡ Some account → slice_get p.befores.items k ≡ Some (last_place (take k accounts) account)
  pub lasts : (account : List ℕ) → lookup (same_bytes account) p.lasts.entries ≡ last_place accounts account
