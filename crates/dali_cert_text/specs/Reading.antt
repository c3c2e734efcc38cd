use Rattle.std.specs.Prelude.{ℕ, Bool, true, false, nat_le, Option, Some, None, option_and_then, if◌then◌else◌, List, [], ◌∷◌, length, codes}
use Rattle.dali_base.specs.Limits.{most_budget, most_balance, most_effects, most_worth, most_bound}
use Rattle.dali_base.specs.Readers.{same_bytes}
use Rattle.dali_tree.specs.declared.fix.Fix.TheVariants.{Barred, Needed, Safe}
use Rattle.dali_cert_print.specs.declared.row.Row.{Row}
use Rattle.dali_cert_print.specs.declared.row.Row.TheVariants as rows
use Rattle.dali_cert_text.specs.Fields.{pieces, first_of, alone, number_of, name_of, place_of, places_of, effects_of, multipliers_of}

-- The row that a line's word and fields spell in a problem of so many items and lines.

unfoldable pub block_of : List (List ℕ) → Option Row
block_of fields =
    option_and_then (λ f. if same_bytes f.0 (codes "1") then alone f.1 (rows.Block false)
    else if same_bytes f.0 (codes "2") then alone f.1 (rows.Block true) else None) (first_of fields)

unfoldable pub budget_of : List (List ℕ) → Option Row
budget_of fields = option_and_then (λ b. alone b.1 (rows.Budget b.0)) (number_of most_budget fields)

unfoldable pub line_of : List (List ℕ) → Option Row
line_of fields =
    option_and_then (λ a. option_and_then (λ s. option_and_then (λ b. alone b.1 (rows.Line (record { account = a.0; asset = s.0; balance = b.0 })))
    (number_of most_balance s.1)) (name_of a.1)) (name_of fields)

unfoldable pub item_of : ℕ → List (List ℕ) → Option Row
item_of lines fields =
    option_and_then (λ i. option_and_then (λ v. if nat_le 1 v.0 then
    option_and_then (λ es. if nat_le (length es) most_effects then Some (rows.Item i.0 v.0 es) else None) (effects_of lines 0 v.1)
    else None) (number_of most_worth i.1)) (name_of fields)

unfoldable pub set_of : ℕ → List (List ℕ) → Option Row
set_of items fields = option_and_then (λ ps. Some (rows.Set ps)) (places_of items 0 fields)

unfoldable pub part_of : ℕ → List (List ℕ) → Option Row
part_of items fields =
    option_and_then (λ b. option_and_then (λ ps. if nat_le 1 (length ps) then Some (rows.Part b.0 ps) else None) (places_of items 0 b.1))
    (number_of most_bound fields)

unfoldable pub barred_of : ℕ → ℕ → List (List ℕ) → Option Row
barred_of items lines fields =
    option_and_then (λ p. option_and_then (λ l. alone l.1 (rows.Fix (Barred p.0 l.0))) (place_of lines p.1)) (place_of items fields)

unfoldable pub needed_of : ℕ → ℕ → List (List ℕ) → Option Row
needed_of items lines fields =
    option_and_then (λ p. option_and_then (λ l. alone l.1 (rows.Fix (Needed p.0 l.0))) (place_of lines p.1)) (place_of items fields)

unfoldable pub safe_of : ℕ → List (List ℕ) → Option Row
safe_of items fields = option_and_then (λ p. alone p.1 (rows.Fix (Safe p.0))) (place_of items fields)

unfoldable pub bound_of : ℕ → List (List ℕ) → Option Row
bound_of lines fields = option_and_then (λ lam. Some (rows.Bound lam)) (multipliers_of lines 0 fields)

unfoldable pub short_of : ℕ → List (List ℕ) → Option Row
short_of lines fields = option_and_then (λ l. alone l.1 (rows.Short l.0)) (place_of lines fields)

unfoldable pub branch_of : ℕ → ℕ → List (List ℕ) → Option Row
branch_of items lines fields =
    option_and_then (λ p. option_and_then (λ lam. Some (rows.Branch p.0 lam)) (multipliers_of lines 0 p.1)) (place_of items fields)

unfoldable pub last_of : List (List ℕ) → Option Row
last_of fields = alone fields rows.Last

-- the rows of a tree
unfoldable pub tree_row_of : ℕ → ℕ → List ℕ → List (List ℕ) → Option Row
tree_row_of items lines word fields =
    if same_bytes word (codes "BOUND") then bound_of lines fields
    else if same_bytes word (codes "BRANCH") then branch_of items lines fields
    else if same_bytes word (codes "BARRED") then barred_of items lines fields
    else if same_bytes word (codes "NEEDED") then needed_of items lines fields
    else if same_bytes word (codes "SAFE") then safe_of items fields
    else if same_bytes word (codes "SHORT") then short_of lines fields
    else None

-- the other rows
unfoldable pub other_row_of : ℕ → ℕ → List ℕ → List (List ℕ) → Option Row
other_row_of items lines word fields =
    if same_bytes word (codes "PART") then part_of items fields
    else if same_bytes word (codes "ITEM") then item_of lines fields
    else if same_bytes word (codes "LINE") then line_of fields
    else if same_bytes word (codes "SET") then set_of items fields
    else if same_bytes word (codes "LAST") then last_of fields
    else if same_bytes word (codes "BLOCK") then block_of fields
    else if same_bytes word (codes "BUDGET") then budget_of fields
    else None

unfoldable pub is_tree_word : List ℕ → Bool
is_tree_word word =
    if same_bytes word (codes "BOUND") then true
    else if same_bytes word (codes "BRANCH") then true
    else if same_bytes word (codes "BARRED") then true
    else if same_bytes word (codes "NEEDED") then true
    else if same_bytes word (codes "SAFE") then true
    else same_bytes word (codes "SHORT")

abbrev pub row_with : ℕ → ℕ → List (List ℕ) → Option Row
row_with items lines [] = None
row_with items lines (word ∷ fields) =
    if is_tree_word word then tree_row_of items lines word fields else other_row_of items lines word fields

-- the row that a line spells
unfoldable pub row_of : ℕ → ℕ → List ℕ → Option Row
row_of items lines line = row_with items lines (pieces line)
