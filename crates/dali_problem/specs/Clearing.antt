use Rattle.std.specs.Prelude.{ℕ, ◌==◌, ℤ, pos, List, [], slice_index_or}
use Rattle.dali_problem.specs.declared.row.LineRow.{LineRow}
use Rattle.dali_problem.specs.declared.row.Effect.{Effect}
use Rattle.dali_problem.specs.Sums.{sum_over, pick}

-- an item: what it is worth, and what it changes on which lines
pub record Item : Type 0 where
  pub id : List ℕ
  pub value : ℕ
  pub effects : List Effect

-- a clearing problem
pub record Clearing : Type 0 where
  pub lines : List LineRow
  pub items : List Item

-- what stands past the last line, and past the last item
abbrev pub no_line : LineRow
no_line = record { account = []; asset = []; balance = 0 }

abbrev pub no_item : Item
no_item = record { id = []; value = 0; effects = [] }

-- line l and item j, counted from 0
abbrev pub line_at : Clearing → ℕ → LineRow
line_at p l = slice_index_or p.lines l no_line

abbrev pub item_at : Clearing → ℕ → Item
item_at p j = slice_index_or p.items j no_item

-- the balance of line l
abbrev pub balance : Clearing → ℕ → ℤ
balance p l = pos (line_at p l).balance

-- the value of item j
abbrev pub worth : Clearing → ℕ → ℕ
worth p j = (item_at p j).value

-- the amount of an effect on line l
abbrev pub on_line : ℕ → Effect → ℤ
on_line l e = pick (e.line == l) e.amount

-- the effect of item j on line l
abbrev pub effect : Clearing → ℕ → ℕ → ℤ
effect p j l = sum_over (on_line l) (item_at p j).effects
