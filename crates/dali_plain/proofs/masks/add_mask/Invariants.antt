use Rattle.std.proofs.Common.{◌≡◌, ◌-◌, ◌+◌, ◌*◌, ◌^◌, ◌+ℤ◌}
use Rattle.std.proofs.Common.{length}
use Rattle.dali_problem.specs.Sums.{sum_over}
use Rattle.dali_problem.specs.Clearing.{effect}
use Rattle.dali_problem.specs.Limits.{Within}
use Rattle.dali_plain.specs.Masks.{places_from, places_of}
use Rattle.dali_plain.proofs.masks.add_mask.Given as goal

abbrev pub invariant-loop-place : goal.invariant-loop-place
invariant-loop-place l = record {
  whole : l.total +ℤ sum_over (λ j. effect l.problem j l.line) (places_from (length l.problem.items - l.place) l.place l.left)
      ≡ l.fn.total +ℤ sum_over (λ j. effect l.problem j l.line) (places_of l.problem l.mask);
  small : Within (2 ^ 60 + l.place * 2 ^ 58) l.total;
}
