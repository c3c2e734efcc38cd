use Rattle.std.proofs.Common.{◌≡◌, ℕ, ◌==◌, false, ◌||◌, take, get_or}
use Rattle.std.specs.List.{list_any}
use Rattle.dali_problem.specs.declared.row.Effect.{Effect}
use Rattle.dali_check.proofs.apart.mark_effects.Given as goal

abbrev pub invariant-loop-effect : goal.invariant-loop-effect
invariant-loop-effect l = record {
  marked : (k : ℕ) → get_or l.marks k false ≡ (get_or l.initial.marks k false || list_any (λ (e : Effect). e.line == k) (take l.effect-index l.effects));
}
