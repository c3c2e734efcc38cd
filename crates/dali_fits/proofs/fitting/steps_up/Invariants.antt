use Rattle.std.proofs.Common.{ℕ, ◌≤◌}
use Rattle.dali_fits.proofs.Rising.{Up}
use Rattle.dali_fits.proofs.fitting.steps_up.Given as goal

abbrev pub invariant-loop-at : goal.invariant-loop-at
invariant-loop-at l = record { rises : Up (λ (k : ℕ). k) l.numbers l.at; some : 1 ≤ l.at }
