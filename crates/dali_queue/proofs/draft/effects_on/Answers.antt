use Rattle.std.proofs.Common.{◌∙◌, ap, map, refl}
use Rattle.std.proofs.lemmas.List.{take_all}
use Rattle.dali_queue.specs.CycleProblem.{effect_on}
use Rattle.dali_queue.proofs.DraftLemmas.{pushed_more}
use Rattle.dali_queue.proofs.draft.effects_on.Goals as goal

pub loop-item-preserved : goal.loop-item-preserved
loop-item-preserved c = record {
  so_far = pushed_more (effect_on c.args.pairs.now.keys) c.args.moves.now c.loop-item.item-index c.item-item.result c.loop-item.effects c.push_effect.new.effects
      (effect_on c.args.pairs.now.keys c.item-item.result) c.loop-item-test.true c.item-item.is c.loop-item.invariant.so_far c.in_ok-push_effect.ensures refl;
}

pub returns : goal.returns
returns c = c.loop-item.invariant.so_far ∙ ap (map (effect_on c.args.pairs.now.keys)) (take_all c.loop-item.item-index c.args.moves.now c.loop-item-test.false)
