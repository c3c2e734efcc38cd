use Rattle.std.proofs.Common.{◌≡◌, ◌*◌, ◌^◌, pos, ◌*ℤ◌, ◌≤ℤ◌, get_or}
use Rattle.dali_problem.specs.Sums.{sum_below}
use Rattle.dali_problem.specs.Clearing.{balance}
use Rattle.dali_lagrange.proofs.total.add_lines.Given as goal

abbrev pub invariant-loop-line : goal.invariant-loop-line
invariant-loop-line l = record {
  exact : l.total ≡ sum_below (λ k. pos (get_or l.point k 0) *ℤ balance l.problem k) l.line;
  low : pos 0 ≤ℤ l.total;
  high : l.total ≤ℤ pos (l.line * 2 ^ 104);
}
