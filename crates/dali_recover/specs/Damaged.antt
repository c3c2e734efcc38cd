use Rattle.std.specs.Prelude.{◌≡◌, ◌⊎◌, ℕ, ◌<◌, ◌≤◌, List, [], ◌∷◌, length, take}
use Rattle.dali_entry.specs.EntryRecord.{EntryRecord}
use Rattle.dali_record.specs.IsRecord.{IsRecord}
use Rattle.dali_machine.specs.Machine.{Machine}
use Rattle.dali_machine.specs.Step.{judged}
use Rattle.dali_machine.specs.History.{HasItsChoice, IsLegal, state_of}
use Rattle.dali_journal.specs.Holds.{IsHeader, StandsTo}
use Rattle.dali_journal.specs.JournalAt.{IsTooLong, Finds}
use Rattle.dali_journal.specs.declared.refusal.Damage.{Damage}
use Rattle.dali_journal.specs.declared.refusal.Damage.TheVariants.{Short, Header, Length, Entry, Illegal}
use Rattle.dali_recover.specs.Spells.{AreEntriesIn, records_of}

-- the edition of the last entry, or this one where there is none
abbrev pub last_edition : ℕ → List EntryRecord → ℕ
last_edition before [] = before
last_edition before (e ∷ es) = last_edition e.edition es

-- up to this place, where a gate stands, these bytes are a journal of this edition with the records of a legal history
pub record ReadsTo (place edition : ℕ) (history : List EntryRecord) (bytes : List ℕ) : Type 0 where
  pub stands : StandsTo place edition (records_of history) bytes
  pub gate : place < length bytes
  pub entries : AreEntriesIn edition history
  pub legal : IsLegal history

-- behind the open gate at this place stands this payload, and a gate behind it
pub record StandsWhole (payload : List ℕ) (place : ℕ) (bytes : List ℕ) : Type 0 where
  pub next : ℕ
  pub finds : Finds payload bytes place next
  pub gate : next < length bytes

-- no record, or one whose edition is above the journal's or below that of the record before
abbrev pub IsNoEntry : ℕ → ℕ → List ℕ → Type 0
IsNoEntry edition last payload =
    ((e : EntryRecord) → IsRecord payload e → ⊥)
    ⊎ ((e : EntryRecord) × IsRecord payload e × ((edition < e.edition) ⊎ (e.edition < last)))

-- the record of an entry of an edition that may stand there, whose choice isn't there exactly where its line, read in its
-- edition, is an accepted CYCLE, or doesn't fit or isn't allowed
abbrev pub IsIllegal : ℕ → ℕ → Machine → List ℕ → Type 0
IsIllegal edition last m payload =
    (e : EntryRecord) × IsRecord payload e × (e.edition ≤ edition) × (last ≤ e.edition)
    × (HasItsChoice m (judged e.edition m e.line) e.choice → ⊥)

-- what is wrong with the record at a place behind the records of this history
abbrev pub FailsAt : Damage → ℕ → List EntryRecord → ℕ → List ℕ → Type 0
FailsAt Short edition history place bytes = ⊥
FailsAt Header edition history place bytes = ⊥
FailsAt Length edition history place bytes = IsTooLong (length bytes) place bytes
FailsAt Entry edition history place bytes =
    (payload : List ℕ) × StandsWhole payload place bytes × IsNoEntry edition (last_edition 0 history) payload
FailsAt Illegal edition history place bytes =
    (payload : List ℕ) × StandsWhole payload place bytes × IsIllegal edition (last_edition 0 history) (state_of history) payload

-- the records before this place are a legal history, and the one behind the open gate there doesn't go on with it
pub record FailsBehind (why : Damage) (place : ℕ) (bytes : List ℕ) : Type 0 where
  pub edition : ℕ
  pub history : List EntryRecord
  pub reads : ReadsTo place edition history bytes
  pub fails : FailsAt why edition history place bytes

-- these bytes are damaged at this place, which is the first, and in this way, which is the first there: too short for a
-- header and a gate; no header; at the record behind an open gate, a length that doesn't fit, no entry, or one that
-- doesn't make the history legal
abbrev pub DamagedAt : List ℕ → ℕ → Damage → Type 0
DamagedAt bytes place Short = (place ≡ 0) × (length bytes < 17)
DamagedAt bytes place Header = (place ≡ 0) × (17 ≤ length bytes) × ((edition : ℕ) → IsHeader edition (take 16 bytes) → ⊥)
DamagedAt bytes place Length = FailsBehind Length place bytes
DamagedAt bytes place Entry = FailsBehind Entry place bytes
DamagedAt bytes place Illegal = FailsBehind Illegal place bytes
