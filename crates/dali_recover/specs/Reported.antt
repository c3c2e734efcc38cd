use Rattle.std.specs.Prelude.{List, [], ◌∷◌}
use Rattle.dali_entry.specs.EntryRecord.{EntryRecord}
use Rattle.dali_machine.specs.History.{after_entry}
use Rattle.dali_machine.specs.Machine.{Machine}
use Rattle.dali_machine.specs.Outcomes.{IsReported}
use Rattle.dali_machine.specs.Step.{step}

-- What is answered to each of these entries, one after the other, is true: the choice of a cycle is allowed for its problem
-- and budget, OPTIMAL is a best set's mark, and UNFINISHED that of a budget that was spent. And it has a block: its problem is
-- within the limits, and calls everything by a name.
abbrev pub AreReported : Machine → List EntryRecord → Type 0
AreReported m [] = Unit {0}
AreReported m (e ∷ es) = IsReported (step e.edition m e.line e.choice).outcome × AreReported (after_entry m e) es
