use Rattle.std.specs.Prelude.{◌-◌, ◌≤◌, ◌^◌}
use Rattle.std.specs.List.{All}
use Rattle.dali_base.specs.Limits.{most_multiplier}
use Rattle.dali_problem.specs.Limits.{Within}
use Rattle.dali_lagrange.specs.declared.kept.Kept.TheInside.{Inside}
use Rattle.dali_lagrange.specs.KeptSum.{KeptSum}

abbrev pub view_of : Inside → KeptSum
view_of a = record {
  marks = a.marks.items;
  multipliers = a.multipliers.items;
  reduced = a.reduced.items;
  total = a.total;
  columns = a.columns;
}

-- every sum leaves room for one more
pub record IsBounded (a : Inside) : Type 0 where
  pub multipliers : All (λ m. m ≤ most_multiplier) a.multipliers.items
  pub reduced : All (Within (2 ^ 103)) a.reduced.items
  pub total : Within (2 ^ 117 - 1) a.total
