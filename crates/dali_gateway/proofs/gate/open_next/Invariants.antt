use Rattle.std.proofs.Common.{◌≡◌, length, map, drop}
use Rattle.dali_gateway.specs.Gateway.{queue, whole_of}
use Rattle.dali_gateway.specs.Merge.{merged}
use Rattle.dali_gateway.proofs.gate.open_next.Given as goal

abbrev pub invariant-loop-at : goal.invariant-loop-at
invariant-loop-at l = record {
  long : length l.inboxes.items ≡ length l.fn.inboxes.items;
  whole : map whole_of l.inboxes.items ≡ map whole_of l.fn.inboxes.items;
  same : merged (map queue l.fn.inboxes.items) l.turns ≡ merged (map queue l.inboxes.items) (drop l.at l.turns);
}
