use Rattle.std.proofs.Common.{◌≡◌, ◌+ℤ◌, take}
use Rattle.dali_problem.specs.Sums.{sum_over}
use Rattle.dali_problem.specs.Clearing.{item_at, on_line}
use Rattle.dali_plain.proofs.masks.add_item.Given as goal

abbrev pub invariant-loop-effect : goal.invariant-loop-effect
invariant-loop-effect l = record {
  exact : l.total ≡ l.fn.total +ℤ sum_over (on_line l.line) (take l.effect-index (item_at l.problem l.place).effects);
}
