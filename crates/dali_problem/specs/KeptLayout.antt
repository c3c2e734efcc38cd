use Rattle.std.specs.Prelude.{◌^◌}
use Rattle.std.specs.List.{All}
use Rattle.dali_problem.specs.declared.partial.Partial.TheInside.{Inside}
use Rattle.dali_problem.specs.Kept.{Kept, IsSmall}

abbrev pub kept_of : Inside → Kept
kept_of a = record { marks = a.marks.items; sums = a.sums.items }

-- every sum leaves room for one more
pub record IsBounded (a : Inside) : Type 0 where
  pub bounded : All (IsSmall (2 ^ 100)) a.sums.items
