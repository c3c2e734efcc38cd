use Rattle.std.proofs.Common.{◌≡◌, ◌++◌, map, take}
use Rattle.dali_problem.specs.declared.row.Effect.{Effect}
use Rattle.dali_restrict.proofs.lines.add_changed.Given as goal

abbrev pub invariant-loop-effect : goal.invariant-loop-effect
invariant-loop-effect l = record {
  so_far : l.lines.items ≡ l.initial.lines.items ++ map (λ (e : Effect). e.line) (take l.effect-index l.effects);
}
