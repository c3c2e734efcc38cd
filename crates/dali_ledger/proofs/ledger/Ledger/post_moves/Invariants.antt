use Rattle.std.proofs.Common.{◌+◌, ◌≤◌, drop}
use Rattle.dali_ledger.proofs.NetLemmas.{Midway}
use Rattle.dali_ledger.proofs.ledger.Ledger.post_moves.Given as goal

abbrev pub invariant-loop-item : goal.invariant-loop-item
invariant-loop-item l = record {
  room : l.initial.self.spare ≤ l.self.spare + l.item-index;
  midway : Midway l.command l.initial.self.postings l.self.postings l.moves (drop l.item-index l.moves);
}
