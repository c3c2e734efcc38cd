use Rattle.std.proofs.Common.{◌≡◌, ℕ, ◌<◌, length, get_or}
use Rattle.dali_check.proofs.scratch.Scratch.new.Given as goal

abbrev pub invariant-loop-place : goal.invariant-loop-place
invariant-loop-place l = record {
  size : length l.places ≡ l.place;
  each : (k : ℕ) → k < l.place → get_or l.places k 0 ≡ k;
}
