use Rattle.std.specs.Prelude.{ℕ, List, [], ◌∷◌, refl}
use Rattle.std.specs.Coded.{Coded, code_by, coded×, coded_ℕ}
use Rattle.std.specs.FinMap as map
use Rattle.dali_account.specs.Units.{PairKey, Units, units_code, with_units}

-- units under pairs, and for how many new pairs there is room
pub record Holding : Type 0 where
  pub units : Units
  pub spare : ℕ

abbrev pub holding_code : Coded Holding
holding_code = code_by (Units × ℕ) (coded× units_code coded_ℕ) (λ h. (h.units, h.spare)) (λ p. record { units = p.0; spare = p.1 }) (λ _. refl)

-- the map of these entries, of which the first at a pair counts
abbrev pub units_in : List (PairKey × ℕ) → Units
units_in [] = map.empty
units_in (e ∷ es) = with_units (units_in es) e.0 e.1
