use Rattle.std.proofs.Common.{◌≡◌, ◌++◌, take}
use Rattle.std.specs.List.{flat_map}
use Rattle.dali_reply.specs.Reply.{balance_line}
use Rattle.dali_reply.proofs.outcome.add_balances.Given as goal

abbrev pub invariant-loop-pair : goal.invariant-loop-pair
invariant-loop-pair l = l.text ≡ l.initial.text ++ flat_map (balance_line l.number) (take l.pair-index l.pairs)
