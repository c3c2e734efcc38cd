use Rattle.std.specs.Prelude.{ℕ, ◌≤◌, List, map, length}
use Rattle.std.specs.List.{All}
use Rattle.dali_outside.specs.Outside.{Sight}
use Rattle.dali_outside.specs.Stops.{MightHaveLeft}
use Rattle.dali_entry.specs.EntryRecord.{EntryRecord}
use Rattle.dali_record.specs.RecordText.{record_text}
use Rattle.dali_record.specs.IsRecord.{IsWithin}
use Rattle.dali_machine.specs.History.{IsLegal}
use Rattle.dali_journal.specs.Holds.{Holds}

-- the records of a history's entries, in order
abbrev pub records_of : List EntryRecord → List (List ℕ)
records_of history = map record_text history

-- entries that a journal of this edition can hold: each has a record, and none has a greater edition than the journal
pub record AreEntriesIn (edition : ℕ) (history : List EntryRecord) : Type 0 where
  pub within : All IsWithin history
  pub editions : All (λ (e : EntryRecord). e.edition ≤ edition) history

-- an image spells a history: it holds the records of the history's entries, in a journal of some edition that can hold them
pub record Spells (image : List ℕ) (history : List EntryRecord) : Type 0 where
  pub edition : ℕ
  pub holds : Holds edition (records_of history) image
  pub entries : AreEntriesIn edition history

-- an image spells a legal history
pub record SpellsLegal (image : List ℕ) (history : List EntryRecord) : Type 0 where
  pub spells : Spells image history
  pub legal : IsLegal history

-- every image that a stop now may leave spells this history
abbrev pub EachSpells : List EntryRecord → Sight → Type 0
EachSpells history s = (image text : List ℕ) → MightHaveLeft s (length s.past) image text → Spells image history
