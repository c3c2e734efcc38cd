use Rattle.std.specs.Prelude.{ℕ, ◌≤◌, List, length, map, slice_range}
use Rattle.std.specs.List.{All}
use Rattle.dali_problem.specs.declared.row.Effect.{Effect}
use Rattle.dali_problem.specs.declared.problem.ItemRow.{ItemRow}
use Rattle.dali_problem.specs.declared.problem.Problem.TheInside.{Inside}
use Rattle.dali_problem.specs.Clearing.{Item, Clearing}
use Rattle.dali_problem.specs.Limits.{IsProblem}

-- the item whose effects a row has in the column
abbrev pub item_in : List Effect → ItemRow → Item
item_in column row = record { id = row.id; value = row.value; effects = slice_range column row.start row.end }

abbrev pub view_of : Inside → Clearing
view_of a = record { lines = a.lines.items; items = map (item_in a.column.items) a.rows.items }

-- a row's range lies within a column of n effects
pub record IsPlaced (n : ℕ) (row : ItemRow) : Type 0 where
  pub order : row.start ≤ row.end
  pub within : row.end ≤ n

pub record IsLaidOut (a : Inside) : Type 0 where
  pub placed : All (IsPlaced (length a.column.items)) a.rows.items
  pub bounds : IsProblem (view_of a)
