use Rattle.std.specs.Prelude.{◌≡◌, ℕ, ◌+◌, ◌≤◌, Bool, IsTrue, List, ◌++◌, length}
use Rattle.dali_entry.specs.EntryRecord.{EntryRecord}
use Rattle.dali_journal.specs.Holds.{Holds}
use Rattle.dali_line.specs.Lines.{Reader}
use Rattle.dali_machine.specs.History.{IsLegal, state_of}
use Rattle.dali_machine.specs.Machine.{Machine, opening}
use Rattle.dali_outside.specs.Outside.{Feed, Sight, Rose, Goes, now}
use Rattle.dali_outside.specs.Stops.{MayLeave, LeavesOnly}
use Rattle.dali_recover.specs.Recovers.{IsFound, RestsWith}
use Rattle.dali_recover.specs.declared.found.Found.{Found}
use Rattle.dali_recover.specs.Reported.{AreReported}
use Rattle.dali_recover.specs.Spells.{records_of, Spells, AreEntriesIn}
use Rattle.dali_register.specs.Repeating.{Repeats}
use Rattle.dali_register.specs.Standing.{SoFar}
use Rattle.dali_register.specs.TextOf.{lines_of}
use Rattle.dali_register.specs.declared.register.Register.{Register}
use Rattle.dali_day.specs.DayRun.{FaultsRose, TakesDay, Opened}
use Rattle.dali_day.specs.Reading.{Reads}
use Rattle.dali_day.specs.declared.end.DayEnd.{DayEnd}
use Rattle.dali_day.specs.declared.end.DayEnd.TheVariants.{Done, ReadFault, PrintFault, DiskFault, Damaged, OtherDay, LongLine, LongFile, JournalFull, OutOfMemory}

-- a legal history that was found on the device, in a journal of this edition; what is answered to it is true
pub record HasFound (told : Bool) (before : Sight) (edition : ℕ) (found : List EntryRecord) : Type 0 where
  pub spelled : IsTrue told → Spells before.bytes found
  pub header : IsTrue told → Holds edition (records_of found) before.bytes
  pub legal : IsLegal found
  pub held : AreEntriesIn edition found
  pub reported : AreReported opening found

-- what recovery gives since a moment: the history that the device spelled then, at rest now, with nothing written or printed
pub record HasRecovered (told : Bool) (before : Sight) (found : Found) (sight : Sight) : Type 0 where
  pub found_is : IsFound before.size found
  pub rests : IsTrue told → RestsWith found sight
  pub unwritten : IsTrue told → sight.bytes ≡ before.bytes
  pub silent : IsTrue told → sight.printed ≡ before.printed
  pub stops : IsTrue told → LeavesOnly (MayLeave (now before)) before sight
  pub goes : Goes before sight
  pub syncs : sight.syncs ≤ before.syncs + 1

pub record HasRecoveredSome (told : Bool) (found : Found) (sight : Sight) : Type 0 where
  pub before : Sight
  pub since : HasRecovered told before found sight

-- While the found entries are gone over again: those done are the first of them, their lines were taken from the file and
-- their replies printed, and the state is theirs.
pub record ReplaysTo (source_tells site_tells : Bool) (old : Feed) (before : Sight) (found done : List EntryRecord) (tail edition : ℕ) (reader : Reader) (machine : Machine) (feed : Feed) (sight : Sight) : Type 0 where
  pub repeats : Repeats site_tells before found done tail edition sight
  pub machine_is : machine ≡ state_of done
  pub reads : Reads source_tells old (lines_of done) reader feed
  pub faults : old.faults ≤ feed.faults
  pub unwritten : IsTrue site_tells → sight.bytes ≡ before.bytes
  pub syncs : sight.syncs ≤ before.syncs + 1

-- so it was since some moment
pub record ReplaysSome (source_tells site_tells : Bool) (found done : List EntryRecord) (reader : Reader) (machine : Machine) (feed : Feed) (sight : Sight) : Type 0 where
  pub old : Feed
  pub before : Sight
  pub tail : ℕ
  pub edition : ℕ
  pub has : HasFound site_tells before edition found
  pub to : ReplaysTo source_tells site_tells old before found done tail edition reader machine feed sight

-- Between two new commands: the register stands behind those found, and the lines of all its entries were taken.
pub record GoesTo (source_tells site_tells : Bool) (old : Feed) (before : Sight) (found added held : List EntryRecord) (reader : Reader) (r : Register) (feed : Feed) (sight : Sight) : Type 0 where
  pub so_far : SoFar site_tells before found added held r sight
  pub reads : Reads source_tells old (lines_of ((found ++ added) ++ held)) reader feed
  pub faults : old.faults ≤ feed.faults

-- some entries were added or are held back
pub record GoesOnTo (source_tells site_tells : Bool) (old : Feed) (before : Sight) (found : List EntryRecord) (reader : Reader) (r : Register) (feed : Feed) (sight : Sight) : Type 0 where
  pub added : List EntryRecord
  pub held : List EntryRecord
  pub to : GoesTo source_tells site_tells old before found added held reader r feed sight

-- so it was since some moment
pub record GoesOnSome (source_tells site_tells : Bool) (reader : Reader) (r : Register) (feed : Feed) (sight : Sight) : Type 0 where
  pub old : Feed
  pub before : Sight
  pub found : List EntryRecord
  pub has : HasFound site_tells before r.journal.edition found
  pub to : GoesOnTo source_tells site_tells old before found reader r feed sight

-- the ends at which the reader of lines gives no more
abbrev pub EndsInput : DayEnd → Type 0
EndsInput Done = Unit {0}
EndsInput ReadFault = Unit {0}
EndsInput PrintFault = ⊥
EndsInput DiskFault = ⊥
EndsInput (Damaged place why) = ⊥
EndsInput (OtherDay k) = ⊥
EndsInput (LongLine k) = Unit {0}
EndsInput LongFile = Unit {0}
EndsInput (JournalFull need left) = ⊥
EndsInput OutOfMemory = Unit {0}

-- the reader of lines gave no more, before what is held back was brought to the device and the console
pub record Finishes (source_tells site_tells : Bool) (old new : Feed) (before : Sight) (found added held : List EntryRecord) (r : Register) (sight : Sight) (end : DayEnd) : Type 0 where
  pub has : HasFound site_tells before r.journal.edition found
  pub so_far : SoFar site_tells before found added held r sight
  pub ends : EndsInput end
  pub takes : IsTrue source_tells → TakesDay old new (lines_of ((found ++ added) ++ held)) end
  pub within : IsTrue source_tells → TakesDay old new (lines_of ((found ++ added) ++ held)) PrintFault
  pub read : end ≡ ReadFault → Rose old.faults new.faults
  pub faults : old.faults ≤ new.faults

-- how a day ended that found a history
pub record EndsSo (source_tells site_tells : Bool) (old new : Feed) (before after : Sight) (end : DayEnd) : Type 0 where
  pub counts : FaultsRose old new before after end
  pub opened : Opened source_tells site_tells old new before after end
