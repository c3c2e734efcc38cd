use Rattle.std.proofs.Common.{◌≡◌, map, take}
use Rattle.dali_queue.specs.Drafts.{item_of_draft}
use Rattle.dali_queue.proofs.draft.add_items.Given as goal

abbrev pub invariant-loop-draft : goal.invariant-loop-draft
invariant-loop-draft l = record {
  so_far : l.problem ≡ record l.initial.problem { items = map (item_of_draft l.pairs.keys) (take l.draft-index l.drafts) };
}
