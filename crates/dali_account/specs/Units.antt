use Rattle.std.specs.Prelude.{◌≡◌, ℕ, List, Option, Some, None, unwrap_or, ◌==◌, if◌then◌else◌}
use Rattle.std.specs.declared.cmp.Ordering.{Ordering}
use Rattle.std.specs.Ordering.{nat_cmp, ordering_then}
use Rattle.std.specs.Cmp.Lexicographic.{slice_cmp}
use Rattle.std.specs.Coded.{Coded, coded_ℕ, coded_list, coded×}
use Rattle.std.specs.FinMap as map

-- a pair: an account and an asset
abbrev pub PairKey : Type 0
PairKey = List ℕ × List ℕ

-- pairs in byte order of account, then of asset
abbrev pub pair_cmp : PairKey → PairKey → Ordering
pair_cmp p q = ordering_then (slice_cmp nat_cmp p.0 q.0) (slice_cmp nat_cmp p.1 q.1)

-- a finite map from pairs to whole numbers
abbrev pub Units : Type 0
Units = map.FinMap pair_cmp ℕ

-- a pair that isn't in the map has 0
abbrev pub units_of : Units → PairKey → ℕ
units_of m pair = unwrap_or (map.get m pair) 0

-- the map with this number at the pair, and without the pair where the number is 0
abbrev pub with_units : Units → PairKey → ℕ → Units
with_units m pair n = if n == 0 then map.remove m pair else map.insert m pair n

-- what the map has for a number: nothing for 0
abbrev pub some_units : ℕ → Option ℕ
some_units n = if n == 0 then None else Some n

-- no pair stands in the map with 0
abbrev pub HasNoZero : Units → Type 0
HasNoZero m = (pair : PairKey) → map.get m pair ≡ some_units (units_of m pair)

-- how such a map is stored
abbrev pub units_code : Coded Units
units_code = map.code (coded× (coded_list coded_ℕ) (coded_list coded_ℕ)) coded_ℕ
