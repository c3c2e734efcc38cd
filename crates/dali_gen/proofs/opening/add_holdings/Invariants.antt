use Rattle.std.proofs.Common.{◌≡◌, ◌++◌, map}
use Rattle.std.specs.List.{range_with_len}
use Rattle.dali_gen.specs.Day.{text_of, holding_line}
use Rattle.dali_gen.proofs.opening.add_holdings.Given as goal

abbrev pub invariant-loop-code : goal.invariant-loop-code
invariant-loop-code l = l.text ≡ l.initial.text ++ text_of (map holding_line (range_with_len 0 l.code))
