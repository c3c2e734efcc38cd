use Rattle.std.proofs.Common.{ℕ, List, sym, subst}
use Rattle.std.proofs.lemmas.List.Elements.{All-get_or}
use Rattle.dali_queue.specs.NetOf.{items_at}
use Rattle.dali_queue.specs.Eligible.{ArePlaces}
use Rattle.dali_queue.specs.Drafts.{draft_of}
use Rattle.dali_queue.proofs.DraftLemmas.{pushed_more}
use Rattle.dali_queue.proofs.queue.Queue.drafts.Goals as goal

pub draft-requires : goal.draft-requires
draft-requires c = subst (ArePlaces c.args.self.now.queue.waiting) (sym c.places-item.is) (All-get_or (ArePlaces c.args.self.now.queue.waiting) c.args.members.now c.loop-places.places-index c.places-item.result c.loop-places-test.true c.requires)

pub loop-places-preserved : goal.loop-places-preserved
loop-places-preserved c = record {
  so_far = pushed_more (λ (places : List ℕ). draft_of (items_at c.args.self.now.queue.waiting places)) c.args.members.now c.loop-places.places-index c.places-item.result c.loop-places.drafts.items c.push.new.self.items
      c.in_ok-draft.field-0 c.loop-places-test.true c.places-item.is c.loop-places.invariant.so_far c.in_ok-push.ensures.items c.in_ok-draft.ensures;
}
