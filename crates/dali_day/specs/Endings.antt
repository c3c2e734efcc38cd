use Rattle.std.specs.Prelude.{◌≡◌, ◌⊎◌, ℕ, true, List, ◌++◌}
use Rattle.dali_entry.specs.EntryRecord.{EntryRecord}
use Rattle.dali_journal.specs.Appends.{IsFirm}
use Rattle.dali_line.specs.Commands.{commands}
use Rattle.dali_outside.specs.Outside.{Feed, Sight}
use Rattle.dali_recover.specs.Spells.{Spells, SpellsLegal}
use Rattle.dali_register.specs.Front.{IsFront}
use Rattle.dali_register.specs.TextOf.{text_of, lines_of}
use Rattle.dali_day.specs.DayRun.{TakesDay, FitsNot}
use Rattle.dali_day.specs.declared.end.DayEnd.{DayEnd}
use Rattle.dali_day.specs.declared.end.DayEnd.TheVariants.{Done, ReadFault, PrintFault, DiskFault, Damaged, OtherDay, LongLine, LongFile, JournalFull, OutOfMemory}

-- A day that is done: the device spells a legal history of all commands of the file, with nothing loose, its text was
-- printed, and it begins with the history that the device spelled at the start.
pub record IsWhole (file : List ℕ) (before after : Sight) : Type 0 where
  pub history : List EntryRecord
  pub spells : SpellsLegal after.bytes history
  pub lines : lines_of history ≡ commands file
  pub text : after.printed ≡ before.printed ++ text_of history
  pub firm : IsFirm after
  pub found : List EntryRecord
  pub spelled : Spells before.bytes found
  pub begins : IsFront found history

-- the device spells one legal history, which is the one of the start, or its text was printed
pub record LeavesOne (before after : Sight) : Type 0 where
  pub history : List EntryRecord
  pub spells : SpellsLegal after.bytes history
  pub old_or_printed : Spells before.bytes history ⊎ (after.printed ≡ before.printed ++ text_of history)

-- The commands that were whole when the input broke off are done: each is a line of the history that the device spells,
-- and the text printed is the replies of exactly these.
pub record DoesWhole (old new : Feed) (before after : Sight) (end : DayEnd) : Type 0 where
  pub history : List EntryRecord
  pub spells : SpellsLegal after.bytes history
  pub done : List EntryRecord
  pub front : IsFront done history
  pub takes : TakesDay old new (lines_of done) end
  pub text : after.printed ≡ before.printed ++ text_of done

-- The journal is full: the device spells a legal history whose text was printed, and the file has one command more, whose
-- record doesn't fit.
pub record IsFull (need left : ℕ) (old : Feed) (before after : Sight) : Type 0 where
  pub history : List EntryRecord
  pub spells : SpellsLegal after.bytes history
  pub text : after.printed ≡ before.printed ++ text_of history
  pub edition : ℕ
  pub fits_not : FitsNot true true need left old before history edition

-- what each ending leaves
abbrev pub Leaves : Feed → Feed → Sight → Sight → DayEnd → Type 0
Leaves old new before after Done = LeavesOne before after
Leaves old new before after ReadFault = LeavesOne before after × DoesWhole old new before after ReadFault
Leaves old new before after PrintFault = Unit {0}
Leaves old new before after DiskFault = Unit {0}
Leaves old new before after (Damaged place why) = Unit {0}
Leaves old new before after (OtherDay k) = Unit {0}
Leaves old new before after (LongLine k) = LeavesOne before after × DoesWhole old new before after (LongLine k)
Leaves old new before after LongFile = LeavesOne before after × DoesWhole old new before after LongFile
Leaves old new before after (JournalFull need left) = LeavesOne before after × IsFull need left old before after
Leaves old new before after OutOfMemory = LeavesOne before after
