use Rattle.std.proofs.Common.{◌≡◌, ◌+◌, ◌*◌, ◌^◌, ◌+ℤ◌, get_or}
use Rattle.dali_problem.specs.Sums.{sum_below}
use Rattle.dali_problem.specs.Limits.{Within}
use Rattle.dali_problem.specs.Partial.{mark}
use Rattle.dali_lagrange.specs.Bound.{reduced, count_of}
use Rattle.dali_lagrange.proofs.total.add_places.Given as goal

abbrev pub invariant-loop-place : goal.invariant-loop-place
invariant-loop-place l = record {
  exact : l.total ≡ l.initial.total +ℤ sum_below (λ j. count_of (mark l.partial.marks j) (reduced l.problem (λ k. get_or l.point k 0) j)) l.place;
  small : Within (2 ^ 116 + l.place * 2 ^ 103) l.total;
}
