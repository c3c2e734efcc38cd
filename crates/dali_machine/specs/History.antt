use Rattle.std.specs.Prelude.{ℕ, ◌≤◌, IsTrue, List, [], ◌∷◌, Option, Some, None, fold}
use Rattle.dali_entry.specs.EntryRecord.{EntryRecord}
use Rattle.dali_line.specs.Line.{is_line}
use Rattle.dali_tree.specs.declared.choice.Choice.{Choice}
use Rattle.dali_machine.specs.Cycles.{accepted_cycle, HasChoice}
use Rattle.dali_machine.specs.Machine.{Machine, opening}
use Rattle.dali_machine.specs.declared.judged.Judged.{Judged}
use Rattle.dali_machine.specs.Step.{judged, step}

-- the state after one more entry, after more entries, and the state of a history
abbrev pub after_entry : Machine → EntryRecord → Machine
after_entry m e = (step e.edition m e.line e.choice).next

abbrev pub state_after : Machine → List EntryRecord → Machine
state_after m entries = fold after_entry m entries

abbrev pub state_of : List EntryRecord → Machine
state_of history = state_after opening history

-- a choice is there exactly where the judged line is an accepted CYCLE
abbrev pub HasItsChoice : Machine → Judged → Option Choice → Type 0
HasItsChoice m judgement choice = HasChoice m (accepted_cycle judgement) choice

-- an entry that may come after a state whose last entry had this edition
pub record IsNext (m : Machine) (last : ℕ) (e : EntryRecord) : Type 0 where
  pub line : IsTrue (is_line e.line)
  pub edition : last ≤ e.edition
  pub choice : HasItsChoice m (judged e.edition m e.line) e.choice

-- entries that may come one after the other
abbrev pub AreNext : Machine → ℕ → List EntryRecord → Type 0
AreNext m last [] = Unit {0}
AreNext m last (e ∷ es) = IsNext m last e × AreNext (after_entry m e) e.edition es

-- a legal history: its editions never fall, each line is a command of at most 200 bytes, and a choice is there exactly
-- where a cycle is accepted, and fits and is allowed
pub record IsLegal (history : List EntryRecord) : Type 0 where
  pub entries : AreNext opening 0 history
