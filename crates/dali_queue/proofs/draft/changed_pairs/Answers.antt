use Rattle.std.proofs.Common.{◌∙◌, ◌||◌, ap, sym, map, take, List}
use Rattle.std.specs.Prelude.{flat_map}
use Rattle.std.specs.List.{list_any}
use Rattle.std.proofs.lemmas.List.{take_all}
use Rattle.dali_account.specs.declared.net.Move.{Move}
use Rattle.dali_account.specs.Net.{pair_of}
use Rattle.dali_queue.specs.declared.draft.Draft.{Draft}
use Rattle.dali_queue.specs.Drafts.{same_pair}
use Rattle.dali_queue.proofs.DraftLemmas.{net_more, keys_in_order}
use Rattle.dali_queue.proofs.draft.changed_pairs.Goals as goal

pub loop-draft-preserved : goal.loop-draft-preserved
loop-draft-preserved c = record {
  so_far = λ q. c.in_ok-add_pairs.ensures q
      ∙ ap (λ b. b || list_any (same_pair q) (map pair_of c.moves.result.now)) (c.loop-draft.invariant.so_far q)
      ∙ ap (λ (ms : List Move). list_any (same_pair q) (flat_map (map pair_of) (map (λ (d : Draft). d.net) (take c.loop-draft.draft-index c.args.drafts.now))) || list_any (same_pair q) (map pair_of ms))
      (c.moves.ensures.moves ∙ ap (λ (d : Draft). d.net) c.draft-item.is)
      ∙ sym (net_more c.args.drafts.now c.loop-draft.draft-index c.draft-item.result c.loop-draft-test.true (same_pair q));
}

pub returns : goal.returns
returns c = keys_in_order c.sort.new.self.keys (map (λ (d : Draft). d.net) c.args.drafts.now) c.in_ok-sort.ensures.sorted c.in_ok-sort.ensures.unique
    (λ q. c.in_ok-sort.ensures.reordered.2 q ∙ c.loop-draft.invariant.so_far q
    ∙ ap (λ (ds : List Draft). list_any (same_pair q) (flat_map (map pair_of) (map (λ (d : Draft). d.net) ds))) (take_all c.loop-draft.draft-index c.args.drafts.now c.loop-draft-test.false))
