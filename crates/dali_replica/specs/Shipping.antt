use Rattle.std.specs.Prelude.{◌≡◌, ℕ, ◌+◌, List, [], ◌∷◌, ◌++◌, length}
use Rattle.std.specs.List.{All}
use Rattle.dali_entry.specs.EntryRecord.{EntryRecord}
use Rattle.dali_record.specs.IsRecord.{IsRecord}
use Rattle.dali_record.specs.RecordText.{record_text}
use Rattle.dali_replica.specs.Frame.{frame_text, EndsWithin}
use Rattle.dali_replica.specs.Judging.{IsNumbered}
use Rattle.dali_replica.specs.Stream.{ShippedRecord, stream_text, StandFrom}

-- the frames of entries one after the other, of which the first has this number and stands at this place of the stream
abbrev pub frames_from : ℕ → ℕ → List EntryRecord → List ShippedRecord
frames_from number place [] = []
frames_from number place (e ∷ es) =
    record { place = place; number = number; bytes = record_text e } ∷ frames_from (number + 1) (place + length (frame_text number (record_text e))) es

-- the frames of a history: the record of each entry, in order, with the number of its command, counted from 1
abbrev pub frames_of : List EntryRecord → List ShippedRecord
frames_of history = frames_from 1 0 history

-- a shipped history: the bytes of its frames, one right after the other
abbrev pub shipped : List EntryRecord → List ℕ
shipped history = stream_text (frames_of history)

-- a frame of a history: its record is that of the history's entry of its number
pub record IsFrameOf (history : List EntryRecord) (f : ShippedRecord) : Type 0 where
  pub entry : EntryRecord
  pub numbered : IsNumbered f.number entry history
  pub record_is : IsRecord f.bytes entry

-- A stream that is shipped from a history: whole frames of the history, in any order, any of them more than once or not at
-- all; and it may end within a frame.
pub record IsShipped (history : List EntryRecord) (stream : List ℕ) : Type 0 where
  pub frames : List ShippedRecord
  pub rest : List ℕ
  pub parts : stream ≡ stream_text frames ++ rest
  pub stand : StandFrom 0 frames
  pub each : All (IsFrameOf history) frames
  pub ends : EndsWithin rest
