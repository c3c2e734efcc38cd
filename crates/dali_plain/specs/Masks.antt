use Rattle.std.specs.Prelude.{◌≡◌, ℕ, zero, suc, ◌+◌, ◌/◌, ◌%◌, ◌==◌, ◌≤◌, List, [], ◌∷◌, length, if◌then◌else◌}
use Rattle.dali_problem.specs.Clearing.{Clearing}
use Rattle.dali_problem.specs.Feasible.{ArePlaces, IsFeasible, value_of}

-- the places that a mask has among n places from j on: its lowest bit stands for place j
abbrev pub places_from : ℕ → ℕ → ℕ → List ℕ
places_from zero j mask = []
places_from (suc n) j mask =
    if mask % 2 == 1 then j ∷ places_from n (j + 1) (mask / 2) else places_from n (j + 1) (mask / 2)

-- the places of a problem that a mask has
abbrev pub places_of : Clearing → ℕ → List ℕ
places_of p mask = places_from (length p.items) 0 mask

-- some feasible set is worth v
pub record IsReached (p : Clearing) (v : ℕ) : Type 0 where
  pub set : List ℕ
  pub places : ArePlaces p set
  pub feasible : IsFeasible p set
  pub value : value_of p set ≡ v

-- v is what a best set is worth: some feasible set is worth it, and none is worth more
pub record IsGreatest (p : Clearing) (v : ℕ) : Type 0 where
  pub reached : IsReached p v
  pub most : (t : List ℕ) → ArePlaces p t → IsFeasible p t → value_of p t ≤ v
