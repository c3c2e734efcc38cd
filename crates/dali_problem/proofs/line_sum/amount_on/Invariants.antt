use Rattle.std.proofs.Common.{◌≡◌, pos, take}
use Rattle.dali_problem.specs.Sums.{sum_over}
use Rattle.dali_problem.specs.Clearing.{on_line}
use Rattle.dali_problem.proofs.line_sum.amount_on.Given as goal

abbrev pub invariant-loop-effect : goal.invariant-loop-effect
invariant-loop-effect l = sum_over (on_line l.line) (take l.effect-index l.effects) ≡ pos 0
