use Rattle.std.specs.Prelude.{◌≡◌, ◌⊎◌, ℕ, ◌+◌, ◌<◌, ◌≤◌, Bool, IsTrue, List, [], ◌∷◌, ◌++◌, length}
use Rattle.dali_entry.specs.EntryRecord.{EntryRecord}
use Rattle.dali_journal.specs.Appends.{AtRest, IsFirm}
use Rattle.dali_journal.specs.Frames.{frames_length}
use Rattle.dali_journal.specs.declared.refusal.Damage.{Damage}
use Rattle.dali_machine.specs.History.{IsLegal}
use Rattle.dali_machine.specs.Machine.{opening}
use Rattle.dali_outside.specs.Outside.{Feed, Sight, Rose, Goes, TellsAll, now}
use Rattle.dali_outside.specs.Stops.{MayLeave, LeavesOnly}
use Rattle.dali_put.specs.PutRun.{PrintsSome}
use Rattle.dali_recover.specs.Damaged.{DamagedAt}
use Rattle.dali_recover.specs.Reported.{AreReported}
use Rattle.dali_recover.specs.Spells.{records_of, AreEntriesIn}
use Rattle.dali_replica.specs.Frame.{IsOverlong}
use Rattle.dali_replica.specs.Judging.{IsNextBy, IsOther, IsBad}
use Rattle.dali_replica.specs.Limits.{most_stream}
use Rattle.dali_replica.specs.Stream.{ShippedRecord, stream_text}
use Rattle.dali_upkeep.specs.Editions.{SpellsIn}
use Rattle.dali_follow.specs.Held.{held_text}
use Rattle.dali_follow.specs.Takes.{Takes, AreFirst, AreWhole}
use Rattle.dali_follow.specs.declared.end.FollowEnd.{FollowEnd}
use Rattle.dali_follow.specs.declared.end.FollowEnd.TheVariants.{Done, ReadFault, PrintFault, DiskFault, Damaged, OtherDay, BadFrame, LongFile, JournalFull, OutOfMemory}

-- ---- what was taken from the stream

-- the input was read to its end, and these are all its whole frames
pub record ReadsAll (taken left : List ℕ) (frames : List ShippedRecord) : Type 0 where
  pub end : left ≡ []
  pub limit : length taken ≤ most_stream
  pub all : AreWhole taken frames

-- one byte past the limit was taken, and these are all whole frames within it
pub record PastLimit (taken : List ℕ) (frames : List ShippedRecord) : Type 0 where
  pub within : List ℕ
  pub past : ℕ
  pub parts : taken ≡ within ++ past ∷ []
  pub limit : length within ≡ most_stream
  pub all : AreWhole within frames

-- the frames that were taken when the end came, and what of the stream had been taken then
abbrev pub TakenAt : FollowEnd → List ℕ → List ℕ → List ShippedRecord → Type 0
TakenAt Done taken left frames = ReadsAll taken left frames
TakenAt ReadFault taken left frames = AreWhole taken frames
TakenAt PrintFault taken left frames = ReadsAll taken left frames
TakenAt DiskFault taken left frames = AreFirst taken frames
TakenAt (Damaged place why) taken left frames = ⊥
TakenAt (OtherDay k) taken left frames = AreFirst taken frames
TakenAt (BadFrame place) taken left frames = AreFirst taken frames
TakenAt LongFile taken left frames = PastLimit taken frames
TakenAt (JournalFull need left_over) taken left frames = AreFirst taken frames
TakenAt OutOfMemory taken left frames = AreFirst taken frames

-- these bytes of the stream were taken in the call, and none past the limit but where the end says so
pub record TakesStream (old new : Feed) (frames : List ShippedRecord) (end : FollowEnd) : Type 0 where
  pub taken : List ℕ
  pub moved : old.left ≡ taken ++ new.left
  pub at : TakenAt end taken new.left frames
  pub limit : (end ≡ LongFile → ⊥) → length taken ≤ most_stream

-- ---- what a stop leaves

-- an image spells what a history becomes by some first ones of these frames, and nothing was printed
pub record SpellsTaken (edition : ℕ) (found : List EntryRecord) (frames : List ShippedRecord) (printed image text : List ℕ) : Type 0 where
  pub first : List ShippedRecord
  pub rest : List ShippedRecord
  pub parts : frames ≡ first ++ rest
  pub history : List EntryRecord
  pub takes : Takes edition found first history
  pub spells : SpellsIn edition history image
  pub silent : text ≡ printed

-- an image spells a history, and behind what was printed before stand some first bytes of its HELD line
pub record ShowsHeld (edition : ℕ) (history : List EntryRecord) (printed image text : List ℕ) : Type 0 where
  pub spells : SpellsIn edition history image
  pub shown : PrintsSome (held_text (length history)) printed text

-- while frames are taken; and once the HELD line is printed
abbrev pub LeavesHeld : ℕ → List EntryRecord → List ShippedRecord → List EntryRecord → List ℕ → List ℕ → List ℕ → Type 0
LeavesHeld edition found frames all printed image text = SpellsTaken edition found frames printed image text ⊎ ShowsHeld edition all printed image text

abbrev pub LeavesAt : FollowEnd → ℕ → List EntryRecord → List ShippedRecord → List EntryRecord → List ℕ → List ℕ → List ℕ → Type 0
LeavesAt Done edition found frames all = LeavesHeld edition found frames all
LeavesAt PrintFault edition found frames all = LeavesHeld edition found frames all
LeavesAt end edition found frames all = SpellsTaken edition found frames

-- what was printed when the end came
abbrev pub PrintsFollow : FollowEnd → ℕ → List ℕ → List ℕ → Type 0
PrintsFollow Done count before after = after ≡ before ++ held_text count
PrintsFollow PrintFault count before after = PrintsSome (held_text count) before after
PrintsFollow end count before after = after ≡ before

-- a device at rest with these entries, in a journal of this edition
pub record HasAtRest (edition : ℕ) (entries : List EntryRecord) (s : Sight) : Type 0 where
  pub tail : ℕ
  pub rest : AtRest tail edition (records_of entries) s

-- ---- why the end came

-- the frame behind those taken
pub record ComesBehind (source_tells : Bool) (old : Feed) (frames : List ShippedRecord) (f : ShippedRecord) : Type 0 where
  pub first : IsTrue source_tells → AreFirst old.left (frames ++ f ∷ [])
  pub place_is : f.place ≡ length (stream_text frames)

-- the frame behind those taken is of another entry
pub record NextIsOther (source_tells : Bool) (old : Feed) (all : List EntryRecord) (frames : List ShippedRecord) (k : ℕ) : Type 0 where
  pub f : ShippedRecord
  pub behind : ComesBehind source_tells old frames f
  pub other : IsOther all f
  pub number : k ≡ f.number

-- the frame behind those taken is bad
pub record NextIsBad (source_tells : Bool) (old : Feed) (all : List EntryRecord) (frames : List ShippedRecord) (edition place : ℕ) : Type 0 where
  pub f : ShippedRecord
  pub behind : ComesBehind source_tells old frames f
  pub bad : IsBad edition all f
  pub place_is : place ≡ f.place

-- or its length is more than the limit
pub record NextIsOverlong (source_tells : Bool) (old : Feed) (frames : List ShippedRecord) (place : ℕ) : Type 0 where
  pub place_is : place ≡ length (stream_text frames)
  pub rest : List ℕ
  pub parts : IsTrue source_tells → old.left ≡ stream_text frames ++ rest
  pub overlong : IsOverlong rest

-- the record of the frame behind those taken, which is of the entry that comes next, doesn't fit
pub record NextFitsNot (source_tells : Bool) (old : Feed) (size : ℕ) (all : List EntryRecord) (frames : List ShippedRecord) (edition need left : ℕ) : Type 0 where
  pub f : ShippedRecord
  pub behind : ComesBehind source_tells old frames f
  pub entry : EntryRecord
  pub next : IsNextBy edition all f entry
  pub need_is : need ≡ length f.bytes + 6
  pub left_is : left + (16 + frames_length (records_of all)) ≡ size
  pub short : left < need

abbrev pub Because : Bool → Feed → ℕ → List EntryRecord → List ShippedRecord → ℕ → FollowEnd → Type 0
Because s old size all frames edition (Damaged place why) = ⊥
Because s old size all frames edition (OtherDay k) = NextIsOther s old all frames k
Because s old size all frames edition (BadFrame place) = NextIsBad s old all frames edition place ⊎ NextIsOverlong s old frames place
Because s old size all frames edition (JournalFull need left) = NextFitsNot s old size all frames edition need left
Because s old size all frames edition end = Unit {0}

-- A fault comes only where its count rose, and no count falls.
pub record FaultsRose (old new : Feed) (before after : Sight) (end : FollowEnd) : Type 0 where
  pub read : end ≡ ReadFault → Rose old.faults new.faults
  pub print : end ≡ PrintFault → Rose before.print_faults after.print_faults
  pub disk : end ≡ DiskFault → Rose before.disk_faults after.disk_faults
  pub faults : old.faults ≤ new.faults
  pub goes : Goes before after

-- ---- the whole run

-- How a run ended, since its history was found. All entries are those found and those that the frames taken added; after a
-- disk fault the device may have all of them, or all but the last.
pub record Follows (source_tells site_tells : Bool) (old new : Feed) (mid after : Sight) (edition : ℕ) (found : List EntryRecord) (end : FollowEnd) : Type 0 where
  pub frames : List ShippedRecord
  pub all : List EntryRecord
  pub takes : Takes edition found frames all
  pub legal : IsLegal all
  pub held : AreEntriesIn edition all
  pub reported : AreReported opening all
  pub since : IsTrue site_tells → LeavesOnly (LeavesAt end edition found frames all mid.printed) mid after
  pub rest : IsTrue site_tells → (end ≡ DiskFault → ⊥) → HasAtRest edition all after
  pub text : IsTrue site_tells → PrintsFollow end (length all) mid.printed after.printed
  pub input : IsTrue source_tells → TakesStream old new frames end
  pub because : Because source_tells old mid.size all frames edition end
  pub counts : FaultsRose old new mid after end

-- the opening found a history: nothing was written or printed, and nothing is loose
pub record Finds (before mid : Sight) : Type 0 where
  pub bytes : mid.bytes ≡ before.bytes
  pub silent : mid.printed ≡ before.printed
  pub firm : IsFirm mid
  pub stops : LeavesOnly (MayLeave (now before)) before mid

-- A history was found, and from then on, which is the moment `mid`, the device spells what it becomes by the frames taken.
pub record Opened (source_tells site_tells : Bool) (old new : Feed) (before after : Sight) (end : FollowEnd) : Type 0 where
  pub mid : Sight
  pub edition : ℕ
  pub found : List EntryRecord
  pub spelled : IsTrue site_tells → SpellsIn edition found before.bytes
  pub finds : IsTrue site_tells → Finds before mid
  pub goes : Goes before mid
  pub follows : Follows source_tells site_tells old new mid after edition found end

-- how a run ends that found no history
abbrev pub EndsUnopened : FollowEnd → Type 0
EndsUnopened Done = ⊥
EndsUnopened ReadFault = ⊥
EndsUnopened PrintFault = ⊥
EndsUnopened DiskFault = Unit {0}
EndsUnopened (Damaged place why) = Unit {0}
EndsUnopened (OtherDay k) = ⊥
EndsUnopened (BadFrame place) = ⊥
EndsUnopened LongFile = ⊥
EndsUnopened (JournalFull need left) = ⊥
EndsUnopened OutOfMemory = Unit {0}

-- No history was found: nothing was taken, written or printed.
pub record Unopened (told : Bool) (old new : Feed) (before after : Sight) (end : FollowEnd) : Type 0 where
  pub ends : EndsUnopened end
  pub unread : new ≡ old
  pub unwritten : IsTrue told → after.bytes ≡ before.bytes
  pub silent : IsTrue told → after.printed ≡ before.printed
  pub firm : IsTrue told → (end ≡ DiskFault → ⊥) → IsFirm after
  pub stops : IsTrue told → LeavesOnly (MayLeave (now before)) before after

-- damage, or a cause that comes before it
abbrev pub IsDamage : ℕ → Damage → FollowEnd → Type 0
IsDamage place why end = (end ≡ Damaged place why) ⊎ ((end ≡ DiskFault) ⊎ (end ≡ OutOfMemory))

-- What a run of `follow` took, printed and left, and why it ended so.
pub record FollowRun (source_tells site_tells : Bool) (old new : Feed) (before after : Sight) (end : FollowEnd) : Type 0 where
  pub counts : FaultsRose old new before after end
  pub told : IsTrue site_tells → TellsAll before
  pub told_after : IsTrue site_tells → TellsAll after
  pub damaged : IsTrue site_tells → (place : ℕ) (why : Damage) → end ≡ Damaged place why → DamagedAt before.bytes place why
  pub damaged_only : IsTrue site_tells → (place : ℕ) (why : Damage) → DamagedAt before.bytes place why → IsDamage place why end
  pub came : Unopened site_tells old new before after end ⊎ Opened source_tells site_tells old new before after end
