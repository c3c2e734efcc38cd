use Rattle.std.specs.Prelude.{◌≡◌, ℕ, ◌+◌, ◌-◌, ◌<◌, ◌≤◌, Bool, IsTrue, List, [], ◌∷◌, ◌++◌, length, take, drop}
use Rattle.dali_outside.specs.Outside.{Feed}
use Rattle.dali_replica.specs.Limits.{most_stream}
use Rattle.dali_line.specs.Lines.{Reach}
use Rattle.dali_replica.specs.Reading.{Gets}
use Rattle.dali_replica.specs.declared.refusal.FrameNo.{FrameNo}
use Rattle.dali_replica.specs.declared.refusal.FrameNo.TheVariants.{ReadFault, BadLength, LongFile, OutOfMemory}
use Rattle.dali_replica.specs.declared.intake.Intake.TheInside.{Inside}

-- the bytes that were taken and not used yet, and how many were taken
pub record Taken : Type 0 where
  pub pending : List ℕ
  pub taken : ℕ

abbrev pub taken_of : Inside → Taken
taken_of a = record { pending = take (a.end - a.start) (drop a.start a.bytes); taken = a.taken }

pub record IsTaken (a : Inside) : Type 0 where
  pub order : a.start ≤ a.end
  pub within : a.end ≤ length a.bytes
  pub counted : a.end - a.start ≤ a.taken
  pub limit : a.taken ≤ most_stream

abbrev pub reach_of : Taken → Feed → Reach
reach_of intake feed = record { pending = intake.pending; taken = intake.taken; left = feed.left }

-- Midway in a call: these bytes were used since it began, and those behind them are pending.
pub record Midway (told : Bool) (old : Reach) (used : List ℕ) (now : Reach) : Type 0 where
  pub got : List ℕ
  pub gets : Gets told old got now
  pub parted : old.pending ++ got ≡ used ++ now.pending

-- nothing is behind the bytes used, and the source gave nothing more
pub record Dries (told : Bool) (old : Reach) (used : List ℕ) (now : Reach) : Type 0 where
  pub midway : Midway told old used now
  pub empty : now.pending ≡ []

-- the end of input stands behind the bytes used
pub record AtEnd (told : Bool) (old : Reach) (used : List ℕ) (now : Reach) : Type 0 where
  pub dries : Dries told old used now
  pub end : IsTrue told → now.left ≡ []

-- the bytes used reach to the limit, and one more was taken
pub record AtLimit (told : Bool) (old : Reach) (used : List ℕ) (now : Reach) : Type 0 where
  pub got : List ℕ
  pub past : ℕ
  pub moved : IsTrue told → old.left ≡ (got ++ past ∷ []) ++ now.left
  pub limit : old.taken + length got ≡ most_stream
  pub parted : old.pending ++ got ≡ used

-- why no more bytes came behind those used
abbrev pub Breaks : Bool → Reach → List ℕ → Reach → FrameNo → Type 0
Breaks told old used now ReadFault = Dries told old used now
Breaks told old used now (BadLength place) = ⊥
Breaks told old used now LongFile = AtLimit told old used now
Breaks told old used now OutOfMemory = ⊥

-- within so many bytes behind those used, the end of input was met
pub record EndsShort (told : Bool) (old : Reach) (used : List ℕ) (size : ℕ) (now : Reach) : Type 0 where
  pub part : List ℕ
  pub short : length part < size
  pub at_end : AtEnd told old (used ++ part) now

-- within so many bytes behind those used, no more came
pub record BreaksShort (told : Bool) (old : Reach) (used : List ℕ) (size : ℕ) (now : Reach) (e : FrameNo) : Type 0 where
  pub part : List ℕ
  pub short : length part < size
  pub breaks : Breaks told old (used ++ part) now e

-- bytes behind those used are there, and there was no room for them
pub record LacksRoom (told : Bool) (old : Reach) (used : List ℕ) (now : Reach) : Type 0 where
  pub part : List ℕ
  pub midway : Midway told old (used ++ part) now
  pub some : 0 < length now.pending

-- why not so many bytes were read behind those used
abbrev pub StopsShort : Bool → Reach → List ℕ → ℕ → Reach → FrameNo → Type 0
StopsShort told old used size now OutOfMemory = LacksRoom told old used now
StopsShort told old used size now e = BreaksShort told old used size now e
