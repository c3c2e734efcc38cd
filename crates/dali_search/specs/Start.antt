use Rattle.std.specs.Prelude.{ℕ, List, length}
use Rattle.std.specs.List.{range_with_len}
use Rattle.dali_problem.specs.declared.mark.Mark.{Mark}
use Rattle.dali_problem.specs.Clearing.{Clearing}
use Rattle.dali_check.specs.Sides.{opened}

-- all of n places, rising
abbrev pub all_places : ℕ → List ℕ
all_places n = range_with_len 0 n

-- the partial choice in which all places of a problem are undecided
abbrev pub start_of : Clearing → List Mark
start_of p = opened (length p.items) (all_places (length p.items))
