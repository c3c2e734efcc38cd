use Rattle.std.proofs.Common.{◌≤◌}
use Rattle.dali_tree.specs.Fits.{first_member}
use Rattle.dali_fits.proofs.Rising.{Up}
use Rattle.dali_fits.proofs.fitting.firsts_rise.Given as goal

abbrev pub invariant-loop-at : goal.invariant-loop-at
invariant-loop-at l = record { rises : Up first_member l.parts l.at; some : 1 ≤ l.at }
