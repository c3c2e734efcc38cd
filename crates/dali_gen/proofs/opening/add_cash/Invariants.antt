use Rattle.std.proofs.Common.{◌≡◌, ◌++◌, map}
use Rattle.std.specs.List.{range_with_len}
use Rattle.dali_gen.specs.Day.{text_of, cash_line}
use Rattle.dali_gen.proofs.opening.add_cash.Given as goal

abbrev pub invariant-loop-account : goal.invariant-loop-account
invariant-loop-account l = l.text ≡ l.initial.text ++ text_of (map cash_line (range_with_len 0 l.account))
