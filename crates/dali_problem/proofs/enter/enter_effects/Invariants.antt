use Rattle.std.proofs.Common.{◌≡◌, ℕ, ◌<◌, ◌++◌, length, take}
use Rattle.dali_problem.specs.Touches.{entries, column_at}
use Rattle.dali_problem.proofs.enter.enter_effects.Given as goal

abbrev pub invariant-loop-effect : goal.invariant-loop-effect
invariant-loop-effect l = (k : ℕ) → k < length l.columns →
    column_at l.columns k ≡ column_at l.fn.columns k ++ entries l.place k (take l.effect-index l.effects)
