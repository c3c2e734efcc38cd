use Rattle.std.proofs.Common.{◌≡◌, ◌*◌, ◌^◌, pos, ◌*ℤ◌}
use Rattle.dali_problem.specs.Clearing.{worth}
use Rattle.dali_problem.specs.Sums.{sum_below}
use Rattle.dali_problem.specs.Limits.{Within}
use Rattle.dali_problem.specs.Partial.{mark}
use Rattle.dali_lagrange.specs.Bound.{count_of}
use Rattle.dali_lagrange.proofs.start.add_values.Given as goal

abbrev pub invariant-loop-place : goal.invariant-loop-place
invariant-loop-place l = record {
  exact : l.total ≡ sum_below (λ j. count_of (mark l.marks j) (pos 4096 *ℤ pos (worth l.problem j))) l.place;
  small : Within (l.place * 2 ^ 103) l.total;
}
