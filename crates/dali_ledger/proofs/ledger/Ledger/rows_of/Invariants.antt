use Rattle.std.proofs.Common.{◌+◌}
use Rattle.std.specs.Option.{option_map_or}
use Rattle.dali_ledger.proofs.PlaceLemmas.{Walk}
use Rattle.dali_ledger.proofs.ledger.Ledger.rows_of.Given as goal

abbrev pub invariant-loop-next : goal.invariant-loop-next
invariant-loop-next l = Walk l.fn.account l.self-inside.postings.items l.next l.rows.items

abbrev pub decreases-loop-next : goal.decreases-loop-next
decreases-loop-next l = option_map_or (λ k. k + 1) l.next 0
