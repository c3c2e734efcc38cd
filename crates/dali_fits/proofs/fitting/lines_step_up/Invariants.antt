use Rattle.std.proofs.Common.{ℕ, ◌≤◌}
use Rattle.dali_fits.proofs.Rising.{Up}
use Rattle.dali_fits.proofs.fitting.lines_step_up.Given as goal

abbrev pub invariant-loop-at : goal.invariant-loop-at
invariant-loop-at l = record { rises : Up (λ (m : ℕ × ℕ). m.0) l.lam l.at; some : 1 ≤ l.at }
