use Rattle.std.specs.Prelude.{ℕ, ◌+◌, ◌-◌, ◌==◌, Bool, true, false, is_none, ◌&&◌, ◌||◌, nat_lt, nat_le, Option, Some, None, if◌then◌else◌, List, [], ◌∷◌, ◌++◌, length, map, sum_by, slice_index}
use Rattle.std.specs.Ordering.{nat_cmp, is_lt}
use Rattle.std.specs.Cmp.Lexicographic.{slice_cmp}
use Rattle.std.specs.declared.cmp.Ordering.{Ordering}
use Rattle.std.specs.declared.cmp.Ordering.TheVariants.{Less, Equal, Greater}
use Rattle.dali_base.specs.Limits.{most_lines, most_items, most_worths}
use Rattle.dali_base.specs.NameList.{place_of}
use Rattle.dali_problem.specs.declared.row.LineRow.{LineRow}
use Rattle.dali_problem.specs.declared.row.Effect.{Effect}
use Rattle.dali_problem.specs.Clearing.{Clearing, line_at}
use Rattle.dali_tree.specs.declared.choice.Part.{Part}
use Rattle.dali_tree.specs.Fits.{first_member}
use Rattle.dali_cert_print.specs.declared.row.Row.{Row}
use Rattle.dali_cert_print.specs.declared.row.Row.TheVariants as rows
use Rattle.dali_cert_print.specs.Block.{is_small, is_small_bound}

-- Which row may come in a block's problem and between its parts, for private functions.

-- the first decides, and where it is equal the second
abbrev pub before_by : Ordering → Ordering → Bool
before_by Less second = true
before_by Equal second = is_lt second
before_by Greater second = false

-- in byte order of account, then of asset
unfoldable pub is_before : LineRow → LineRow → Bool
is_before a b = before_by (slice_cmp nat_cmp a.account b.account) (slice_cmp nat_cmp a.asset b.asset)

-- a line may come behind the lines so far
unfoldable pub may_line : Clearing → LineRow → Bool
may_line p line =
    length p.items == 0 && nat_lt (length p.lines) most_lines && (length p.lines == 0 || is_before (line_at p (length p.lines - 1)) line)

abbrev pub values_of : Clearing → ℕ
values_of p = sum_by (λ item. item.value) p.items

abbrev pub ids_of : Clearing → List (List ℕ)
ids_of p = map (λ item. item.id) p.items

-- an item may come behind the items so far
unfoldable pub may_item : Bool → Clearing → List ℕ → ℕ → List Effect → Bool
may_item wide p id value effects =
    nat_lt (length p.items) most_items && is_none (place_of (ids_of p) id) && nat_le (values_of p + value) most_worths && (wide || is_small value effects)

abbrev pub with_line : Clearing → LineRow → Clearing
with_line p line = record { lines = p.lines ++ line ∷ []; items = p.items }

abbrev pub with_item : Clearing → List ℕ → ℕ → List Effect → Clearing
with_item p id value effects = record { lines = p.lines; items = p.items ++ record { id = id; value = value; effects = effects } ∷ [] }

abbrev pub no_lines : Clearing
no_lines = record { lines = []; items = [] }

-- the problem behind a row, and the set, if the row is that of the set
unfoldable pub state_row : Bool → Clearing → Row → Option (Clearing × Option (List ℕ))
state_row wide p (rows.Line line) = if may_line p line then Some (with_line p line, None) else None
state_row wide p (rows.Item id value effects) =
    if may_item wide p id value effects then Some (with_item p id value effects, None) else None
state_row wide p (rows.Set places) = Some (p, Some places)
state_row wide p _ = None

-- the least number that the next part may have as its first member: above that of the last part
abbrev pub least_first : ℕ → List Part → ℕ
least_first low [] = low
least_first low (part ∷ parts) = least_first (first_member part + 1) parts

-- the bound and the members of the next part, or none at the last row
unfoldable pub part_row : Bool → ℕ → Row → Option (Option (ℕ × List ℕ))
part_row wide low (rows.Part bound members) =
    if (wide || is_small_bound bound) && nat_le low (slice_index members 0) then Some (Some (bound, members)) else None
part_row wide low rows.Last = Some None
part_row wide low _ = None

-- the edition of the first row, and the budget of the second
unfoldable pub edition_row : Row → Option Bool
edition_row (rows.Block wide) = Some wide
edition_row _ = None

unfoldable pub budget_row : Row → Option ℕ
budget_row (rows.Budget budget) = Some budget
budget_row _ = None
