use Rattle.std.proofs.Common.{◌≡◌, ◌++◌, take}
use Rattle.std.specs.List.{flat_map}
use Rattle.dali_summary.specs.Figures.{figures_row}
use Rattle.dali_summary.proofs.summary.Summary.add_cycles.Given as goal

abbrev pub invariant-loop-cycle : goal.invariant-loop-cycle
invariant-loop-cycle l = l.text ≡ l.initial.text ++ flat_map figures_row (take l.cycle-index l.cycle-items)
