use Rattle.std.proofs.Common.{◌≤◌}
use Rattle.dali_problem.specs.declared.row.Effect.{Effect}
use Rattle.dali_fits.proofs.Rising.{Up}
use Rattle.dali_check_rows.proofs.building.lines_rise.Given as goal

abbrev pub invariant-loop-at : goal.invariant-loop-at
invariant-loop-at l = record { rises : Up (λ (e : Effect). e.line) l.effects l.at; some : 1 ≤ l.at }
