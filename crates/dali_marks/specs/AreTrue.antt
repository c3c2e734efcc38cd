use Rattle.std.specs.Prelude.{List, [], ◌∷◌}
use Rattle.dali_entry.specs.EntryRecord.{EntryRecord}
use Rattle.dali_machine.specs.History.{after_entry}
use Rattle.dali_machine.specs.Machine.{Machine}
use Rattle.dali_machine.specs.Outcomes.{IsTrueOutcome}
use Rattle.dali_machine.specs.Step.{step}

-- What is answered to each of these entries, one after the other, is true: the choice of a cycle is allowed for its problem
-- and budget, OPTIMAL is a best set's mark, and UNFINISHED that of a budget that was spent.
abbrev pub AreTrue : Machine → List EntryRecord → Type 0
AreTrue m [] = Unit {0}
AreTrue m (e ∷ es) = IsTrueOutcome (step e.edition m e.line e.choice).outcome × AreTrue (after_entry m e) es
