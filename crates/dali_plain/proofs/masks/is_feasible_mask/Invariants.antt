use Rattle.std.proofs.Common.{ℕ, ◌<◌, pos, ◌≤ℤ◌}
use Rattle.dali_problem.specs.Feasible.{booked}
use Rattle.dali_plain.specs.Masks.{places_of}
use Rattle.dali_plain.proofs.masks.is_feasible_mask.Given as goal

abbrev pub invariant-loop-line : goal.invariant-loop-line
invariant-loop-line l = record { covered : (k : ℕ) → k < l.line → pos 0 ≤ℤ booked l.problem (places_of l.problem l.mask) k }
