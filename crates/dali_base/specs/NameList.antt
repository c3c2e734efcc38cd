use Rattle.std.specs.Prelude.{ℕ, Bool, List, [], ◌∷◌, ◌++◌, position, Option, None, if◌then◌else◌, nat_eq}
use Rattle.std.specs.List.{list_any}
use Rattle.std.specs.Cmp.Lexicographic.{pointwise}

-- names in order of first entry, and the readied name, if there is one
pub record NameList : Type 0 where
  pub names : List (List ℕ)
  pub readied : Option (List ℕ)

-- whether the name is there
abbrev pub knows : List (List ℕ) → List ℕ → Bool
knows names name = list_any (pointwise nat_eq name) names

-- the place of the name, counted from 0
abbrev pub place_of : List (List ℕ) → List ℕ → Option ℕ
place_of names name = position (pointwise nat_eq name) names

-- a new name goes last and leaves none readied; a name that is there changes nothing
abbrev pub with_name : NameList → List ℕ → NameList
with_name n name = if knows n.names name then n else record { names = n.names ++ name ∷ []; readied = None }
