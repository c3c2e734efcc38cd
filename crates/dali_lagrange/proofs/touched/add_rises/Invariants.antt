use Rattle.std.proofs.Common.{◌≡◌, ◌+◌, ◌*◌, ◌^◌, ◌+ℤ◌, take}
use Rattle.dali_problem.specs.Sums.{sum_over}
use Rattle.dali_problem.specs.Limits.{Within}
use Rattle.dali_lagrange.specs.Touched.{touch_rise}
use Rattle.dali_lagrange.proofs.touched.add_rises.Given as goal

abbrev pub invariant-loop-touch : goal.invariant-loop-touch
invariant-loop-touch l = record {
  exact : l.total ≡ l.initial.total +ℤ sum_over (touch_rise l.marks l.reduced l.from l.to) (take l.touch-index l.touches);
  small : Within (2 ^ 105 + l.touch-index * 2 ^ 105) l.total;
}
