use Rattle.std.specs.Prelude.{◌≡◌, Bool, IsTrue}
use Rattle.dali_machine.specs.Machine.{opening}
use Rattle.dali_outside.specs.Outside.{Feed, Sight}
use Rattle.dali_day.specs.DayRun.{Opened, DayRun}
use Rattle.dali_day.specs.Promises.{DayPromises}
use Rattle.dali_day.specs.declared.end.DayEnd.{DayEnd}
use Rattle.dali_day.specs.declared.end.DayEnd.TheVariants as ends
use Rattle.dali_desk.specs.Blocks.{HaveValidBlocks}
use Rattle.dali_desk.specs.declared.status.Status.{Status}
use Rattle.dali_desk.specs.declared.status.Status.TheVariants.{Done, ReadFault, PrintFault, DiskFault, Damaged, OtherDay, LongLine, LongFile, JournalFull, OutOfMemory}

-- the status of how a day over its journal ended
abbrev pub status_of_day : DayEnd → Status
status_of_day ends.Done = Done
status_of_day ends.ReadFault = ReadFault
status_of_day ends.PrintFault = PrintFault
status_of_day ends.DiskFault = DiskFault
status_of_day (ends.Damaged place why) = Damaged place why
status_of_day (ends.OtherDay k) = OtherDay k
status_of_day (ends.LongLine k) = LongLine k
status_of_day ends.LongFile = LongFile
status_of_day (ends.JournalFull need left) = JournalFull need left
status_of_day ends.OutOfMemory = OutOfMemory

-- What a run of `day` does: its status is that of how a day over its journal ended, with all that is promised of one.
pub record DayOver (source_tells site_tells : Bool) (old new : Feed) (before after : Sight) (status : Status) : Type 0 where
  pub end : DayEnd
  pub status_is : status ≡ status_of_day end
  pub day : DayRun source_tells site_tells old new before after end
  pub promises : IsTrue source_tells → IsTrue site_tells → DayPromises old new before after end
  -- where a history was found, each cycle of it and of what was added prints a block that `check` calls valid
  pub blocks : (o : Opened source_tells site_tells old new before after end) → HaveValidBlocks opening o.all
