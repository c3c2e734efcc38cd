use Rattle.std.specs.Prelude.{ℕ, Bool, false, List, map, Option, Some, None, if◌then◌else◌}
use Rattle.std.specs.List.{range_with_len}
use Rattle.dali_problem.specs.declared.mark.Mark.{Mark}
use Rattle.dali_problem.specs.declared.mark.Mark.TheVariants.{Stranger, Undecided}
use Rattle.dali_problem.specs.Feasible.{has}

-- the partial choice, among n places, in which these members are undecided and there are no others
abbrev pub opened : ℕ → List ℕ → List Mark
opened n members = map (λ j. if has members j then Undecided else Stranger) (range_with_len 0 n)

-- a test of what fixes lead to; it fails where one of them doesn't hold
abbrev pub when_fixed : Option (List Mark) → (List Mark → Bool) → Bool
when_fixed None test = false
when_fixed (Some f) test = test f
