use Rattle.std.specs.Prelude.{◌≡◌, ◌⊎◌, ℕ, ◌+◌, ◌≤◌, List, ◌∷◌, ◌++◌, [], length}
use Rattle.std.specs.List.{All}
use Rattle.dali_entry.specs.EntryRecord.{EntryRecord}
use Rattle.dali_journal.specs.Frames.{frames_length}
use Rattle.dali_journal.specs.Holds.{Holds}
use Rattle.dali_line.specs.Commands.{commands}
use Rattle.dali_line.specs.Line.{MOST_OF_COMMAND}
use Rattle.dali_line.specs.Lines.{MOST_OF_FILE}
use Rattle.dali_machine.specs.History.{AreNext}
use Rattle.dali_machine.specs.Machine.{opening}
use Rattle.dali_outside.specs.Outside.{Feed, Sight, Rose}
use Rattle.dali_record.specs.RecordText.{record_text}
use Rattle.dali_recover.specs.Spells.{records_of, SpellsLegal}
use Rattle.dali_register.specs.Front.{IsFront}
use Rattle.dali_register.specs.TextOf.{lines_of}
use Rattle.dali_day.specs.DayRun.{DiffersAt}
use Rattle.dali_day.specs.declared.end.DayEnd.{DayEnd}
use Rattle.dali_day.specs.declared.end.DayEnd.TheVariants.{Done, ReadFault, PrintFault, DiskFault, Damaged, OtherDay, LongLine, LongFile, JournalFull, OutOfMemory}

-- the record of each entry with which the history that the device spells may go on fits behind it: an entry of the journal's
-- edition and of the file's next command
abbrev pub NextFits : List ℕ → Sight → Type 0
NextFits file s = (edition : ℕ) (history : List EntryRecord) (e : EntryRecord) → Holds edition (records_of history) s.bytes → AreNext opening 0 (history ++ e ∷ []) → e.edition ≡ edition →
    IsFront (lines_of history ++ e.line ∷ []) (commands file) → 16 + frames_length (records_of history) + (length (record_text e) + 6) ≤ s.size

-- nothing stands in the way of a day: the file is within its limits, its next record fits behind what the device spells at the
-- end, and no count rose
pub record IsClear (old new : Feed) (before after : Sight) : Type 0 where
  pub short : All (λ command. length command ≤ MOST_OF_COMMAND) (commands old.left)
  pub small : length old.left ≤ MOST_OF_FILE
  pub fits : NextFits old.left after
  pub no_read : Rose old.faults new.faults → ⊥
  pub no_print : Rose before.print_faults after.print_faults → ⊥
  pub no_disk : Rose before.disk_faults after.disk_faults → ⊥

-- the found entry number k, counted from 1, is of another line than the file's command k, or the file ends before it; those
-- before it are of the file's commands
pub record IsOtherAt (k : ℕ) (file : List ℕ) (before : Sight) : Type 0 where
  pub first : List EntryRecord
  pub kept : EntryRecord
  pub behind : List EntryRecord
  pub spelled : SpellsLegal before.bytes (first ++ kept ∷ behind)
  pub number : k ≡ length first + 1
  pub differs : DiffersAt kept.line (lines_of first) (commands file)

-- the answers where a found entry is of another line: the number is its own, and a day isn't done then, nor its journal
-- full
abbrev pub AnswersOther : ℕ → DayEnd → Type 0
AnswersOther k Done = ⊥
AnswersOther k ReadFault = Unit {0}
AnswersOther k PrintFault = Unit {0}
AnswersOther k DiskFault = Unit {0}
AnswersOther k (Damaged place why) = ⊥
AnswersOther k (OtherDay j) = j ≡ k
AnswersOther k (LongLine j) = Unit {0}
AnswersOther k LongFile = Unit {0}
AnswersOther k (JournalFull need left) = ⊥
AnswersOther k OutOfMemory = Unit {0}
