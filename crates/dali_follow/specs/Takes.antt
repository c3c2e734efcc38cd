use Rattle.std.specs.Prelude.{◌≡◌, ◌⊎◌, ℕ, List, [], ◌∷◌, ◌++◌}
use Rattle.dali_entry.specs.EntryRecord.{EntryRecord}
use Rattle.dali_replica.specs.Frame.{EndsWithin}
use Rattle.dali_replica.specs.Judging.{IsNextBy, IsKept, IsAhead}
use Rattle.dali_replica.specs.Stream.{ShippedRecord, stream_text, StandFrom}

-- a frame that a history passes over: it has its entry, or the frame is ahead
abbrev pub IsPassed : List EntryRecord → ShippedRecord → Type 0
IsPassed history f = IsKept history f ⊎ IsAhead history f

-- A history takes frames, one after the other, in a journal of this edition: a frame of the entry that comes next adds that
-- entry at the end, and one that is passed over changes nothing. At any other frame it goes no further.
abbrev pub Takes : ℕ → List EntryRecord → List ShippedRecord → List EntryRecord → Type 0
Takes edition history [] after = after ≡ history
Takes edition history (f ∷ frames) after =
    ((e : EntryRecord) × IsNextBy edition history f e × Takes edition (history ++ e ∷ []) frames after)
    ⊎ (IsPassed history f × Takes edition history frames after)

-- these are the first whole frames of a stream
pub record AreFirst (stream : List ℕ) (frames : List ShippedRecord) : Type 0 where
  pub rest : List ℕ
  pub parts : stream ≡ stream_text frames ++ rest
  pub stand : StandFrom 0 frames

-- all whole frames of bytes, which end behind them, or within the next frame
pub record AreWhole (bytes : List ℕ) (frames : List ShippedRecord) : Type 0 where
  pub rest : List ℕ
  pub parts : bytes ≡ stream_text frames ++ rest
  pub stand : StandFrom 0 frames
  pub ends : EndsWithin rest
