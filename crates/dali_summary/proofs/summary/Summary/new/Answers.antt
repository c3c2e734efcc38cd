use Rattle.std.proofs.Common.{◌∙◌, List, ap}
use Rattle.dali_summary.specs.declared.figures.CycleFigures.{CycleFigures}
use Rattle.dali_summary.specs.Tally.{Tally}
use Rattle.dali_summary.proofs.Tallies.{tally_none, with_cycles}
use Rattle.dali_summary.proofs.summary.Summary.new.Goals as goal

pub returns-clause-tally : goal.returns-clause-tally
returns-clause-tally c = ap with_cycles c.new.ensures ∙ tally_none
