use Rattle.std.proofs.Common.{◌≡◌, ℕ, ◌<◌, pos, slice_index_or, length, take}
use Rattle.dali_problem.specs.Feasible.{booked}
use Rattle.dali_problem.proofs.feasible.book.Given as goal

abbrev pub invariant-loop-place : goal.invariant-loop-place
invariant-loop-place l = (k : ℕ) → k < length l.at →
    slice_index_or l.at k (pos 0) ≡ booked l.problem (take l.place-index l.places) k
