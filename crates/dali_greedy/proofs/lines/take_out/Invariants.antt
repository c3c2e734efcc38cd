use Rattle.std.proofs.Common.{◌≡◌, ℕ, ◌<◌, pos, ◌-ℤ◌, slice_index_or, length, take}
use Rattle.dali_problem.specs.Sums.{sum_over}
use Rattle.dali_problem.specs.Clearing.{on_line}
use Rattle.dali_greedy.proofs.lines.take_out.Given as goal

abbrev pub invariant-loop-effect : goal.invariant-loop-effect
invariant-loop-effect l = (k : ℕ) → k < length l.has →
    slice_index_or l.has k (pos 0) ≡ slice_index_or l.fn.has k (pos 0) -ℤ sum_over (on_line k) (take l.effect-index l.effects)
