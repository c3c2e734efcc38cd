use Rattle.std.proofs.Common.{◌≡◌, ℕ, ◌<◌, length, take}
use Rattle.dali_problem.specs.Sums.{sum_over}
use Rattle.dali_problem.specs.Clearing.{on_line}
use Rattle.dali_problem.specs.Kept.{sum_at, moved}
use Rattle.dali_problem.proofs.turn.shift.Given as goal

abbrev pub invariant-loop-effect : goal.invariant-loop-effect
invariant-loop-effect l = (k : ℕ) → k < length l.sums →
    sum_at l.sums k ≡ moved (sum_at l.fn.sums k) l.from l.to (sum_over (on_line k) (take l.effect-index l.effects))
