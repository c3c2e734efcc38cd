use Rattle.std.specs.Prelude.{◌≡◌, ◌⊎◌, ℕ, ◌+◌, ◌<◌, ◌≤◌, List, [], ◌∷◌, ◌++◌, length}
use Rattle.dali_entry.specs.EntryRecord.{EntryRecord}
use Rattle.dali_machine.specs.History.{IsLegal}
use Rattle.dali_record.specs.IsRecord.{IsRecord}
use Rattle.dali_recover.specs.Damaged.{last_edition}
use Rattle.dali_replica.specs.Stream.{ShippedRecord}
use Rattle.dali_replica.specs.declared.judged.Judged.{Judged}
use Rattle.dali_replica.specs.declared.judged.Judged.TheVariants.{Next, Kept, Ahead, Other, Bad}

-- What a frame is to a history, in a journal of some edition.

-- the history's entry of this number, counted from 1
pub record IsNumbered (number : ℕ) (e : EntryRecord) (history : List EntryRecord) : Type 0 where
  pub before : List EntryRecord
  pub behind : List EntryRecord
  pub parts : history ≡ before ++ e ∷ behind
  pub number_is : number ≡ length before + 1

-- the record of an entry that the history may go on with, in a journal of this edition
pub record GoesOn (edition : ℕ) (history : List EntryRecord) (bytes : List ℕ) (e : EntryRecord) : Type 0 where
  pub record_is : IsRecord bytes e
  pub most : e.edition ≤ edition
  pub legal : IsLegal (history ++ e ∷ [])

-- why an entry doesn't come next: its edition is above the journal's, or below that of the last entry, or it doesn't make the
-- history legal
abbrev pub ComesNotNext : ℕ → List EntryRecord → EntryRecord → Type 0
ComesNotNext edition history e = (edition < e.edition) ⊎ ((e.edition < last_edition 0 history) ⊎ (IsLegal (history ++ e ∷ []) → ⊥))

-- no record, or that of an entry that doesn't come next
abbrev pub GoesNotOn : ℕ → List EntryRecord → List ℕ → Type 0
GoesNotOn edition history bytes =
    ((e : EntryRecord) → IsRecord bytes e → ⊥)
    ⊎ ((e : EntryRecord) × IsRecord bytes e × ComesNotNext edition history e)

-- the frame of the entry that comes next
pub record IsNextBy (edition : ℕ) (history : List EntryRecord) (f : ShippedRecord) (e : EntryRecord) : Type 0 where
  pub number_is : f.number ≡ length history + 1
  pub goes_on : GoesOn edition history f.bytes e

-- the frame of an entry that the history has
abbrev pub IsKept : List EntryRecord → ShippedRecord → Type 0
IsKept history f = (e : EntryRecord) × IsNumbered f.number e history × IsRecord f.bytes e

-- a frame behind the next one
abbrev pub IsAhead : List EntryRecord → ShippedRecord → Type 0
IsAhead history f = length history + 1 < f.number

-- a frame of another entry than the one that the history has by that number
abbrev pub IsOther : List EntryRecord → ShippedRecord → Type 0
IsOther history f = (e : EntryRecord) × IsNumbered f.number e history × (IsRecord f.bytes e → ⊥)

-- a frame of no number, or of the next one, with which the history doesn't go on
abbrev pub IsBad : ℕ → List EntryRecord → ShippedRecord → Type 0
IsBad edition history f = (f.number ≡ 0) ⊎ ((f.number ≡ length history + 1) × GoesNotOn edition history f.bytes)

-- what each answer says
abbrev pub JudgedSo : ℕ → List EntryRecord → ShippedRecord → Judged → Type 0
JudgedSo edition history f (Next e) = IsNextBy edition history f e
JudgedSo edition history f Kept = IsKept history f
JudgedSo edition history f Ahead = IsAhead history f
JudgedSo edition history f Other = IsOther history f
JudgedSo edition history f Bad = IsBad edition history f

-- what the answer to the bytes behind the last entry says
abbrev pub JudgedNext : ℕ → List EntryRecord → List ℕ → Judged → Type 0
JudgedNext edition history bytes (Next e) = GoesOn edition history bytes e
JudgedNext edition history bytes Kept = ⊥
JudgedNext edition history bytes Ahead = ⊥
JudgedNext edition history bytes Other = ⊥
JudgedNext edition history bytes Bad = GoesNotOn edition history bytes
