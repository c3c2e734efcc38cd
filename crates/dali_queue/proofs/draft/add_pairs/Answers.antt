use Rattle.std.proofs.Common.{◌∙◌, ◌||◌, true, cond, ap, map, List}
use Rattle.std.specs.List.{list_any}
use Rattle.std.proofs.lemmas.List.{take_all}
use Rattle.indexmap.specs.IndexSet.{contains}
use Rattle.dali_account.specs.declared.net.Move.{Move}
use Rattle.dali_account.specs.Net.{pair_of}
use Rattle.dali_queue.specs.Drafts.{same_pair}
use Rattle.dali_queue.proofs.DraftLemmas.{pair_more}
use Rattle.dali_queue.proofs.draft.add_pairs.Goals as goal

pub loop-item-preserved : goal.loop-item-preserved
loop-item-preserved c = record {
  so_far = λ q. pair_more c.args.moves.now c.loop-item.item-index c.item-item.result c.loop-item-test.true
      (contains same_pair c.args.pairs.now q) (contains same_pair c.loop-item.pairs q) (contains same_pair c.insert.new.self q) q (c.loop-item.invariant.so_far q)
      (c.in_ok-insert.ensures.updates.0 q ∙ ap (λ (m : Move). cond (same_pair (pair_of m) q) true (contains same_pair c.loop-item.pairs q)) c.item-item.is);
}

pub returns : goal.returns
returns c q = c.loop-item.invariant.so_far q
    ∙ ap (λ (ms : List Move). contains same_pair c.args.pairs.now q || list_any (same_pair q) (map pair_of ms)) (take_all c.loop-item.item-index c.args.moves.now c.loop-item-test.false)
