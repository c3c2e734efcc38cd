use Rattle.std.proofs.Common.{◌≡◌, ◌≢◌, ◌∙◌, ap, sym, subst, arith, map, take, length, List}
use Rattle.std.specs.Prelude.{sum_by}
use Rattle.std.specs.List.{All}
use Rattle.std.proofs.lemmas.List.{take_all}
use Rattle.dali_problem.specs.declared.row.Effect.{Effect}
use Rattle.dali_problem.specs.Clearing.{Item, Clearing}
use Rattle.dali_problem.specs.Limits.{AreEffects}
use Rattle.dali_queue.specs.declared.draft.Draft.{Draft}
use Rattle.dali_queue.specs.CycleProblem.{effect_on}
use Rattle.dali_queue.specs.Drafts.{item_of_draft}
use Rattle.dali_queue.proofs.DraftLemmas.{items_more, next_few, next_new, next_item, next_total}
use Rattle.dali_queue.proofs.draft.add_items.Goals as goal

pub loop-draft-preserved : goal.loop-draft-preserved
loop-draft-preserved c = record {
  so_far = items_more (item_of_draft c.args.pairs.now.keys) c.args.drafts.now c.loop-draft.draft-index c.draft-item.result c.args.problem.now c.loop-draft.problem c.add_item.new.self
      (record { id = c.draft-item.result.id; value = c.draft-item.result.value; effects = c.as_slice.result.now }) c.loop-draft-test.true c.draft-item.is c.loop-draft.invariant.so_far c.in_ok-add_item.ensures.added
      (ap (λ (es : List Effect). record { id = c.draft-item.result.id; value = c.draft-item.result.value; effects = es }) (c.as_slice.ensures ∙ c.in_ok-effects.ensures ∙ ap (map (effect_on c.args.pairs.now.keys)) c.moves.ensures.moves));
}

pub returns : goal.returns
returns c = c.loop-draft.invariant.so_far
    ∙ ap (λ (ds : List Draft). record c.args.problem.now { items = map (item_of_draft c.args.pairs.now.keys) ds }) (take_all c.loop-draft.draft-index c.args.drafts.now c.loop-draft-test.false)

pub add_item-requires-clause-few : goal.add_item-requires-clause-few
add_item-requires-clause-few c =
    let items : length c.loop-draft.problem.items ≡ length (map (item_of_draft c.args.pairs.now.keys) (take c.loop-draft.draft-index c.args.drafts.now)) = ap (λ (p : Clearing). length p.items) c.loop-draft.invariant.so_far in
    let few = next_few (length c.args.pairs.now.keys) (item_of_draft c.args.pairs.now.keys) c.args.drafts.now c.requires.items c.loop-draft.draft-index c.draft-item.result c.loop-draft-test.true c.draft-item.is in
    omega (arith, items, few)

pub add_item-requires-clause-new_id : goal.add_item-requires-clause-new_id
add_item-requires-clause-new_id c =
    subst (λ (p : Clearing). All (λ (item : Item). item.id ≢ c.draft-item.result.id) p.items) (sym c.loop-draft.invariant.so_far)
    (next_new (length c.args.pairs.now.keys) (item_of_draft c.args.pairs.now.keys) c.args.drafts.now c.requires.items c.loop-draft.draft-index c.draft-item.result c.loop-draft-test.true c.draft-item.is)

pub add_item-requires-clause-value_low : goal.add_item-requires-clause-value_low
add_item-requires-clause-value_low c = (next_item (length c.args.pairs.now.keys) (item_of_draft c.args.pairs.now.keys) c.args.drafts.now c.requires.items c.loop-draft.draft-index c.draft-item.result c.loop-draft-test.true c.draft-item.is).value_low

pub add_item-requires-clause-value_high : goal.add_item-requires-clause-value_high
add_item-requires-clause-value_high c = (next_item (length c.args.pairs.now.keys) (item_of_draft c.args.pairs.now.keys) c.args.drafts.now c.requires.items c.loop-draft.draft-index c.draft-item.result c.loop-draft-test.true c.draft-item.is).value_high

pub add_item-requires-clause-total : goal.add_item-requires-clause-total
add_item-requires-clause-total c =
    let sums : sum_by (λ (item : Item). item.value) c.loop-draft.problem.items ≡ sum_by (λ (item : Item). item.value) (map (item_of_draft c.args.pairs.now.keys) (take c.loop-draft.draft-index c.args.drafts.now)) =
    ap (λ (p : Clearing). sum_by (λ (item : Item). item.value) p.items) c.loop-draft.invariant.so_far in
    let most = next_total (length c.args.pairs.now.keys) (item_of_draft c.args.pairs.now.keys) c.args.drafts.now c.requires.items c.loop-draft.draft-index c.draft-item.result c.loop-draft-test.true c.draft-item.is in
    omega (arith, sums, most)

pub add_item-requires-clause-effects : goal.add_item-requires-clause-effects
add_item-requires-clause-effects c =
    let lines : length c.loop-draft.problem.lines ≡ length c.args.pairs.now.keys = ap (λ (p : Clearing). length p.lines) c.loop-draft.invariant.so_far ∙ c.requires.lines in
    let same : c.as_slice.result.now ≡ map (effect_on c.args.pairs.now.keys) c.draft-item.result.net = c.as_slice.ensures ∙ c.in_ok-effects.ensures ∙ ap (map (effect_on c.args.pairs.now.keys)) c.moves.ensures.moves in
    subst (λ n. AreEffects n c.as_slice.result.now) (sym lines) (subst (AreEffects (length c.args.pairs.now.keys)) (sym same)
    (next_item (length c.args.pairs.now.keys) (item_of_draft c.args.pairs.now.keys) c.args.drafts.now c.requires.items c.loop-draft.draft-index c.draft-item.result c.loop-draft-test.true c.draft-item.is).effects)
