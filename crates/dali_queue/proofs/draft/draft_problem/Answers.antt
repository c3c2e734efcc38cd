use Rattle.std.proofs.Common.{◌∙◌, sym, subst, map}
use Rattle.std.specs.Prelude.{flat_map}
use Rattle.std.specs.List.Sorted.{IsStrictlySortedBy}
use Rattle.dali_account.specs.Net.{pair_of}
use Rattle.dali_account.specs.Units.{pair_cmp}
use Rattle.dali_queue.specs.declared.draft.Draft.{Draft}
use Rattle.dali_queue.proofs.DraftLemmas.{drafted_from}
use Rattle.dali_queue.proofs.PairOrder.{in_order_rises}
use Rattle.dali_queue.proofs.draft.draft_problem.Goals as goal

pub add_lines-requires-clause-rising : goal.add_lines-requires-clause-rising
add_lines-requires-clause-rising c = subst (λ ps. IsStrictlySortedBy pair_cmp ps) (sym (c.as_slice.ensures.keys ∙ c.in_ok-pairs.ensures)) (in_order_rises (flat_map (map pair_of) (map (λ (d : Draft). d.net) c.args.drafts.now)))

pub returns : goal.returns
returns c = drafted_from c.args.book.now.book c.args.drafts.now c.as_slice.result.now c.in_ok-pairs.pairs.keys c.add_lines.new.problem c.add_items.new.problem
    c.as_slice.ensures.keys c.in_ok-pairs.ensures c.in_ok-add_lines.ensures c.in_ok-add_items.ensures
