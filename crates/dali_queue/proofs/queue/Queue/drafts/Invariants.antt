use Rattle.std.proofs.Common.{◌≡◌, map, take}
use Rattle.dali_queue.specs.NetOf.{items_at}
use Rattle.dali_queue.specs.Drafts.{draft_of}
use Rattle.dali_queue.proofs.queue.Queue.drafts.Given as goal

abbrev pub invariant-loop-places : goal.invariant-loop-places
invariant-loop-places l = record {
  so_far : l.drafts.items ≡ map (λ places. draft_of (items_at l.self.queue.waiting places)) (take l.places-index l.members);
}
