use Rattle.std.proofs.Common.{◌≡◌, ℕ, ◌+◌, ◌*◌, ◌^◌, ◌<◌, length, take}
use Rattle.std.specs.List.{All}
use Rattle.dali_problem.specs.Sums.{sum_over}
use Rattle.dali_problem.specs.Limits.{Within}
use Rattle.dali_lagrange.specs.Touched.{at_place, shifted, reduced_in}
use Rattle.dali_lagrange.proofs.touched.shift_touched.Given as goal

abbrev pub invariant-loop-touch : goal.invariant-loop-touch
invariant-loop-touch l = record {
  exact : (j : ℕ) → j < length l.reduced → reduced_in l.reduced j ≡ shifted (reduced_in l.fn.reduced j) l.by (sum_over (at_place j) (take l.touch-index l.touches));
  small : All (Within (2 ^ 103 + l.touch-index * 2 ^ 102)) l.reduced;
}
