use Rattle.std.specs.Prelude.{◌≡◌, ℕ, ◌+◌, ◌≤◌, Bool, true, false, IsTrue, List, [], ◌∷◌, ◌++◌, length}
use Rattle.dali_line.specs.Lines.{Reach}
use Rattle.dali_outside.specs.Outside.{Feed}
use Rattle.dali_replica.specs.Limits.{most_stream}
use Rattle.dali_replica.specs.Frame.{frame_text, EndsWithin, IsOverlong, HasBegun}
use Rattle.dali_replica.specs.Stream.{ShippedRecord, IsFrame}
use Rattle.dali_replica.specs.declared.refusal.FrameNo.{FrameNo}
use Rattle.dali_replica.specs.declared.refusal.FrameNo.TheVariants.{ReadFault, BadLength, LongFile, OutOfMemory}

-- A reader of frames: the place of the next frame's first byte, the bytes that were taken and don't belong to a frame that was
-- given, how many bytes were taken, and whether no more come: the end of input was met, or an error was answered.
pub record Reader : Type 0 where
  pub place : ℕ
  pub pending : List ℕ
  pub taken : ℕ
  pub over : Bool

abbrev pub reached : Reader → Feed → Reach
reached reader feed = record { pending = reader.pending; taken = reader.taken; left = feed.left }

-- the bytes that a call got from its source, all of them within the limit
pub record Gets (told : Bool) (old : Reach) (got : List ℕ) (new : Reach) : Type 0 where
  pub moved : IsTrue told → old.left ≡ got ++ new.left
  pub taken : new.taken ≡ old.taken + length got
  pub within : new.taken ≤ most_stream

-- the next frame was met whole
pub record MeetsFrame (told : Bool) (f : ShippedRecord) (old new : Reach) : Type 0 where
  pub got : List ℕ
  pub gets : Gets told old got new
  pub parted : old.pending ++ got ≡ frame_text f.number f.bytes ++ new.pending
  pub is_frame : IsFrame f

-- the next frame was given, with its place
pub record Gives (told : Bool) (f : ShippedRecord) (old new : Reader) (before after : Feed) : Type 0 where
  pub place_is : f.place ≡ old.place
  pub place_on : new.place ≡ old.place + length (frame_text f.number f.bytes)
  pub more : new.over ≡ false
  pub meets : MeetsFrame told f (reached old before) (reached new after)

-- the end of input was met, and no whole frame was left
pub record MeetsEnd (told : Bool) (old new : Reach) : Type 0 where
  pub got : List ℕ
  pub gets : Gets told old got new
  pub within : EndsWithin (old.pending ++ got)
  pub end : IsTrue told → new.left ≡ []

pub record Ends (told : Bool) (old new : Reader) (before after : Feed) : Type 0 where
  pub over : new.over ≡ true
  pub meets : MeetsEnd told (reached old before) (reached new after)

-- a take failed, and no frame was whole in the bytes taken, nor too long
pub record BreaksOff (told : Bool) (old new : Reach) : Type 0 where
  pub got : List ℕ
  pub gets : Gets told old got new
  pub within : EndsWithin (old.pending ++ got)

-- the next frame's length is more than the limit
pub record FindsOverlong (told : Bool) (old new : Reach) : Type 0 where
  pub got : List ℕ
  pub gets : Gets told old got new
  pub overlong : IsOverlong (old.pending ++ got)

-- a byte past the limit was taken: no frame was whole within the limit, nor too long
pub record PassesLimit (told : Bool) (old new : Reach) : Type 0 where
  pub got : List ℕ
  pub past : ℕ
  pub moved : IsTrue told → old.left ≡ (got ++ past ∷ []) ++ new.left
  pub limit : old.taken + length got ≡ most_stream
  pub within : EndsWithin (old.pending ++ got)

-- want of memory: the next frame's head was met, of a length within the limit, and room was wanted for bytes of its record
-- that were taken
pub record WantsMemory (told : Bool) (old new : Reach) : Type 0 where
  pub got : List ℕ
  pub gets : Gets told old got new
  pub begun : HasBegun (old.pending ++ got)

-- why the frame at a place wasn't given
abbrev pub Stops : Bool → ℕ → Reach → Reach → FrameNo → Type 0
Stops told place old new ReadFault = BreaksOff told old new
Stops told place old new (BadLength at) = (at ≡ place) × FindsOverlong told old new
Stops told place old new LongFile = PassesLimit told old new
Stops told place old new OutOfMemory = WantsMemory told old new
