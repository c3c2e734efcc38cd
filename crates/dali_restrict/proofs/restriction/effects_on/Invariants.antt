use Rattle.std.proofs.Common.{◌≡◌, ◌<◌, map, take, length}
use Rattle.std.specs.List.{All}
use Rattle.dali_problem.specs.declared.row.Effect.{Effect}
use Rattle.dali_restrict.specs.Restriction.{wide_effect}
use Rattle.dali_restrict.proofs.restriction.effects_on.Given as goal

abbrev pub invariant-loop-effect : goal.invariant-loop-effect
invariant-loop-effect l = record {
  same : map (wide_effect l.lines) l.found.items ≡ take l.effect-index l.effects;
  within : All (λ (e : Effect). e.line < length l.lines) l.found.items;
}
