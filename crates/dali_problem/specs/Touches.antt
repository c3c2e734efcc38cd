use Rattle.std.specs.Prelude.{ℕ, zero, suc, ◌==◌, ℤ, pos, List, [], ◌∷◌, ◌++◌, length, if◌then◌else◌, slice_index_or}
use Rattle.std.specs.Ordering.{int_eq}
use Rattle.dali_problem.specs.declared.columns.Touch.{Touch}
use Rattle.dali_problem.specs.declared.row.Effect.{Effect}
use Rattle.dali_problem.specs.Clearing.{Clearing, effect}

-- a place with what it changes a line by, where that isn't 0
abbrev pub touch_by : ℕ → ℤ → List Touch
touch_by j amount = if int_eq amount (pos 0) then [] else record { place = j; amount = amount } ∷ []

-- the items below n that change line l, places rising
abbrev pub touches_below : Clearing → ℕ → ℕ → List Touch
touches_below p l zero = []
touches_below p l (suc n) = touches_below p l n ++ touch_by n (effect p n l)

-- the items that change line l, places rising
abbrev pub touches : Clearing → ℕ → List Touch
touches p l = touches_below p l (length p.items)

-- the touches of a line by a place's effects, in their order; this serves the proofs of private functions alone
abbrev pub entries : ℕ → ℕ → List Effect → List Touch
entries j l [] = []
entries j l (e ∷ es) = (if e.line == l then record { place = j; amount = e.amount } ∷ [] else []) ++ entries j l es

-- the column of a line; past the last one it is empty
abbrev pub column_at : List (List Touch) → ℕ → List Touch
column_at columns l = slice_index_or columns l []
