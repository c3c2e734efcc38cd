use Rattle.std.proofs.Common.{◌≡◌, map, take}
use Rattle.dali_queue.specs.CycleProblem.{effect_on}
use Rattle.dali_queue.proofs.draft.effects_on.Given as goal

abbrev pub invariant-loop-item : goal.invariant-loop-item
invariant-loop-item l = record {
  so_far : l.effects ≡ map (effect_on l.pairs.keys) (take l.item-index l.moves);
}
