use Rattle.std.specs.Prelude.{◌≡◌, ◌⊎◌, ℕ, ◌+◌, ◌<◌, ◌≤◌, Bool, true, false, IsTrue, List, [], ◌∷◌, ◌++◌, length, Ok, Err}
use Rattle.dali_entry.specs.EntryRecord.{EntryRecord}
use Rattle.dali_journal.specs.Appends.{AtRest, Appends}
use Rattle.dali_machine.specs.Outcomes.{IsReported}
use Rattle.dali_machine.specs.History.{state_of}
use Rattle.dali_machine.specs.Step.{step}
use Rattle.dali_outside.specs.Outside.{Feed, Sight, Rose, Goes}
use Rattle.dali_outside.specs.Stops.{LeavesOnly}
use Rattle.dali_put.specs.PutRun.{PutRun}
use Rattle.dali_put.specs.declared.refusal.PutNo.TheVariants as puts
use Rattle.dali_record.specs.RecordText.{record_text}
use Rattle.dali_recover.specs.Recovers.{IsFound}
use Rattle.dali_recover.specs.Spells.{records_of}
use Rattle.dali_recover.specs.declared.found.Found.{Found}
use Rattle.dali_replica.specs.Judging.{IsNextBy, IsOther, IsBad}
use Rattle.dali_replica.specs.Limits.{most_stream}
use Rattle.dali_replica.specs.Reading.{Reader}
use Rattle.dali_replica.specs.Stream.{ShippedRecord, stream_text, StandFrom}
use Rattle.dali_follow.specs.FollowRun.{SpellsTaken, ReadsAll}
use Rattle.dali_follow.specs.Held.{held_text}
use Rattle.dali_follow.specs.Takes.{Takes, IsPassed}
use Rattle.dali_follow.specs.declared.end.FollowEnd.{FollowEnd}
use Rattle.dali_follow.specs.declared.end.FollowEnd.TheVariants.{Done, PrintFault, DiskFault, OtherDay, BadFrame, JournalFull, OutOfMemory}

-- ---- one frame

-- an append of one more entry's record, whether it worked or not
abbrev pub AppendsEntry : Bool → ℕ → EntryRecord → Sight → Sight → Type 0
AppendsEntry worked tail e before after = (edition : ℕ) (list : List (List ℕ)) → AtRest tail edition list before →
    (frame : List ℕ) × (length frame ≡ length (record_text e) + 5) × Appends worked tail edition list (record_text e ∷ []) frame before after

-- one more entry stands on the device and behind what was found
pub record Adds (told : Bool) (e : EntryRecord) (old new : Found) (before after : Sight) : Type 0 where
  pub entries : new.entries ≡ old.entries ++ e ∷ []
  pub edition : new.journal.edition ≡ old.journal.edition
  pub tail : new.journal.tail ≡ old.journal.tail + (length (record_text e) + 5)
  pub appends : IsTrue told → AppendsEntry true old.journal.tail e before after
  pub silent : IsTrue told → after.printed ≡ before.printed
  pub goes : Goes before after

-- the disk failed while it was appended
pub record BreaksAdding (told : Bool) (e : EntryRecord) (old : Found) (before after : Sight) : Type 0 where
  pub reported : IsReported (step e.edition (state_of old.entries) e.line e.choice).outcome
  pub appends : IsTrue told → AppendsEntry false old.journal.tail e before after
  pub silent : IsTrue told → after.printed ≡ before.printed
  pub goes : Goes before after
  pub rose : Rose before.disk_faults after.disk_faults

-- its record doesn't fit
pub record FitsNot (e : EntryRecord) (old : Found) (need left : ℕ) (before after : Sight) : Type 0 where
  pub need_is : need ≡ length (record_text e) + 6
  pub left_is : left ≡ old.journal.left
  pub short : left < need
  pub same : after ≡ before

-- why no entry was added
abbrev pub AddsNot : Bool → EntryRecord → Found → Sight → Sight → FollowEnd → Type 0
AddsNot told e old before after DiskFault = BreaksAdding told e old before after
AddsNot told e old before after (JournalFull need left) = FitsNot e old need left before after
AddsNot told e old before after OutOfMemory = after ≡ before
AddsNot told e old before after end = ⊥

-- the frame's entry was added
pub record AddsFrame (told : Bool) (f : ShippedRecord) (old new : Found) (before after : Sight) : Type 0 where
  pub e : EntryRecord
  pub next : IsNextBy old.journal.edition old.entries f e
  pub adds : Adds told e old new before after

-- or the frame was passed over
pub record Passes (f : ShippedRecord) (old new : Found) (before after : Sight) : Type 0 where
  pub passed : IsPassed old.entries f
  pub same : new ≡ old
  pub still : after ≡ before

abbrev pub TakesFrame : Bool → ShippedRecord → Found → Found → Sight → Sight → Type 0
TakesFrame told f old new before after = AddsFrame told f old new before after ⊎ Passes f old new before after

-- why the frame wasn't taken
pub record AddsNotFrame (told : Bool) (f : ShippedRecord) (old : Found) (before after : Sight) (end : FollowEnd) : Type 0 where
  pub e : EntryRecord
  pub next : IsNextBy old.journal.edition old.entries f e
  pub why : AddsNot told e old before after end

abbrev pub TakesNot : Bool → ShippedRecord → Found → Sight → Sight → FollowEnd → Type 0
TakesNot told f old before after DiskFault = AddsNotFrame told f old before after DiskFault
TakesNot told f old before after (JournalFull need left) = AddsNotFrame told f old before after (JournalFull need left)
TakesNot told f old before after OutOfMemory = after ≡ before
TakesNot told f old before after (OtherDay k) = (k ≡ f.number) × IsOther old.entries f × (after ≡ before)
TakesNot told f old before after (BadFrame place) = (place ≡ f.place) × IsBad old.journal.edition old.entries f × (after ≡ before)
TakesNot told f old before after end = ⊥

-- ---- all frames

-- how far the stream was read since the start: these frames were given, one after the other
pub record Reads (told : Bool) (old : Feed) (frames : List ShippedRecord) (reader : Reader) (feed : Feed) : Type 0 where
  pub got : List ℕ
  pub moved : IsTrue told → old.left ≡ got ++ feed.left
  pub parts : got ≡ stream_text frames ++ reader.pending
  pub stand : StandFrom 0 frames
  pub place : reader.place ≡ length (stream_text frames)
  pub taken : reader.taken ≡ length got
  pub within : reader.taken ≤ most_stream
  pub more : reader.over ≡ false
  pub faults : old.faults ≤ feed.faults

-- what was found became this by these frames: it stands on the device, with nothing loose, and nothing was printed
pub record Stands (told : Bool) (mid : Sight) (edition : ℕ) (found : List EntryRecord) (frames : List ShippedRecord) (now : Found) (sight : Sight) : Type 0 where
  pub read : IsFound mid.size now
  pub edition_is : now.journal.edition ≡ edition
  pub takes : Takes edition found frames now.entries
  pub rest : IsTrue told → AtRest now.journal.tail edition (records_of now.entries) sight
  pub silent : IsTrue told → sight.printed ≡ mid.printed
  pub stops : IsTrue told → LeavesOnly (SpellsTaken edition found frames mid.printed) mid sight
  pub goes : Goes mid sight

-- both, between two frames
pub record FollowsTo (source_tells site_tells : Bool) (old : Feed) (mid : Sight) (edition : ℕ) (found : List EntryRecord) (reader : Reader) (now : Found) (feed : Feed) (sight : Sight) : Type 0 where
  pub frames : List ShippedRecord
  pub reads : Reads source_tells old frames reader feed
  pub stands : Stands site_tells mid edition found frames now sight

-- the input was read to its end, and these are all its whole frames
pub record ReadsWhole (old new : Feed) (frames : List ShippedRecord) : Type 0 where
  pub taken : List ℕ
  pub moved : old.left ≡ taken ++ new.left
  pub all : ReadsAll taken new.left frames

-- the end of input was met: all whole frames were taken
pub record FollowsAll (source_tells site_tells : Bool) (old new : Feed) (mid : Sight) (edition : ℕ) (found : List EntryRecord) (now : Found) (sight : Sight) : Type 0 where
  pub frames : List ShippedRecord
  pub stands : Stands site_tells mid edition found frames now sight
  pub whole : IsTrue source_tells → ReadsWhole old new frames
  pub faults : old.faults ≤ new.faults

-- ---- the HELD line

-- what printing it came to
abbrev pub PrintsLine : Bool → ℕ → Sight → Sight → FollowEnd → Type 0
PrintsLine told count before after Done = PutRun told (held_text count) before after (Ok tt)
PrintsLine told count before after PrintFault = PutRun told (held_text count) before after (Err puts.PrintFault)
PrintsLine told count before after OutOfMemory = after ≡ before
PrintsLine told count before after end = ⊥
