use Rattle.std.specs.Prelude.{◌≡◌, ◌≢◌, ◌↔◌, ℕ, ◌<◌, ◌≤◌, pos, List, length, map, slice_index_or}
use Rattle.std.specs.List.{All, Any, AllPairs, Contains}
use Rattle.dali_base.specs.Limits.{most_lines}
use Rattle.dali_problem.specs.declared.row.Effect.{Effect}
use Rattle.dali_problem.specs.declared.row.LineRow.{LineRow}
use Rattle.dali_problem.specs.Clearing.{Item, Clearing, line_at, item_at, effect}
use Rattle.dali_problem.specs.Feasible.{ArePlaces}

-- the old number behind number i, counted from 0; past the last one 0
abbrev pub old_of : List ℕ → ℕ → ℕ
old_of numbers i = slice_index_or numbers i 0

-- an effect, and an item, with the old numbers of its lines
abbrev pub wide_effect : List ℕ → Effect → Effect
wide_effect lines e = record { line = old_of lines e.line; amount = e.amount }

abbrev pub wide_item : List ℕ → Item → Item
wide_item lines item = record { id = item.id; value = item.value; effects = map (wide_effect lines) item.effects }

-- the lines that some of these places changes, rising
pub record AreChanged (p : Clearing) (members lines : List ℕ) : Type 0 where
  pub rising : AllPairs (λ k l. k < l) lines
  pub changed : (l : ℕ) → Contains lines l ↔ Any (λ j. effect p j l ≢ pos 0) members

-- a problem of these places of p and of the lines that they change, both renumbered in order: each line is the old one, and
-- each item with the old numbers of its lines is the old one
pub record IsRestriction (p : Clearing) (members : List ℕ) (inner : Clearing) (numbers : List ℕ) : Type 0 where
  pub places : ArePlaces p members
  pub changed : AreChanged p members numbers
  pub lines : inner.lines ≡ map (line_at p) numbers
  pub items : map (wide_item numbers) inner.items ≡ map (item_at p) members
  pub within : All (λ (item : Item). All (λ (e : Effect). e.line < length numbers) item.effects) inner.items

-- what follows serves private functions: no public clause cites it

-- effects on lines that stand in a rising list, no longer than a problem's
pub record CoverEffects (numbers : List ℕ) (effects : List Effect) : Type 0 where
  pub rising : AllPairs (λ k l. k < l) numbers
  pub few : length numbers ≤ most_lines
  pub there : All (λ (e : Effect). Contains numbers e.line) effects

-- the members' items were added over these lines
pub record IsAdding (p : Clearing) (rows : List LineRow) (numbers members : List ℕ) (inner : Clearing) : Type 0 where
  pub lines : inner.lines ≡ rows
  pub items : map (wide_item numbers) inner.items ≡ map (item_at p) members
  pub within : All (λ (item : Item). All (λ (e : Effect). e.line < length numbers) item.effects) inner.items
