use Rattle.std.specs.Prelude.{◌≡◌, ◌≢◌, ◌⊎◌, ℕ, ◌+◌, ◌*◌, ◌/◌, ◌<◌, ◌≤◌, Bool, IsTrue, List, [], ◌∷◌, ◌++◌, length}
use Rattle.dali_entry.specs.EntryRecord.{EntryRecord}
use Rattle.dali_journal.specs.Appends.{AtRest, IsFirm}
use Rattle.dali_journal.specs.Frames.{frames_length}
use Rattle.dali_journal.specs.Holds.{Holds}
use Rattle.dali_journal.specs.Limits.{most_payloads}
use Rattle.dali_journal.specs.declared.refusal.Damage.{Damage}
use Rattle.dali_line.specs.Commands.{commands}
use Rattle.dali_line.specs.Lines.{FirstIsLong}
use Rattle.dali_machine.specs.History.{AreNext}
use Rattle.dali_machine.specs.Machine.{opening}
use Rattle.dali_outside.specs.Outside.{Feed, Sight, Rose, Goes, TellsAll, now}
use Rattle.dali_outside.specs.Stops.{MayLeave, LeavesOnly}
use Rattle.dali_record.specs.RecordText.{record_text}
use Rattle.dali_recover.specs.Damaged.{DamagedAt}
use Rattle.dali_recover.specs.Spells.{records_of, Spells, SpellsLegal}
use Rattle.dali_register.specs.Front.{IsFront, PrintsFront}
use Rattle.dali_register.specs.Leaving.{LeavesDay}
use Rattle.dali_register.specs.Standing.{AreEntries, cycles_in}
use Rattle.dali_register.specs.TextOf.{text_of, lines_of}
use Rattle.dali_day.specs.Taken.{ReadsAll, BreaksAfter, LongAfter, PastLimit, StopsInLimit, StopsWithin}
use Rattle.dali_day.specs.declared.end.DayEnd.{DayEnd}
use Rattle.dali_day.specs.declared.end.DayEnd.TheVariants.{Done, ReadFault, PrintFault, DiskFault, Damaged, OtherDay, LongLine, LongFile, JournalFull, OutOfMemory}

-- A fault comes only where its count rose, and no count falls.
pub record FaultsRose (old new : Feed) (before after : Sight) (end : DayEnd) : Type 0 where
  pub read : end ≡ ReadFault → Rose old.faults new.faults
  pub print : end ≡ PrintFault → Rose before.print_faults after.print_faults
  pub disk : end ≡ DiskFault → Rose before.disk_faults after.disk_faults
  pub faults : old.faults ≤ new.faults
  pub goes : Goes before after

-- how a day ends that found no history
abbrev pub EndsUnopened : DayEnd → Type 0
EndsUnopened Done = ⊥
EndsUnopened ReadFault = ⊥
EndsUnopened PrintFault = ⊥
EndsUnopened DiskFault = Unit {0}
EndsUnopened (Damaged place why) = Unit {0}
EndsUnopened (OtherDay k) = ⊥
EndsUnopened (LongLine k) = ⊥
EndsUnopened LongFile = ⊥
EndsUnopened (JournalFull need left) = ⊥
EndsUnopened OutOfMemory = Unit {0}

-- No history was found: nothing was taken, written or printed.
pub record Unopened (told : Bool) (old new : Feed) (before after : Sight) (end : DayEnd) : Type 0 where
  pub ends : EndsUnopened end
  pub unread : new ≡ old
  pub unwritten : IsTrue told → after.bytes ≡ before.bytes
  pub silent : IsTrue told → after.printed ≡ before.printed
  pub firm : IsTrue told → (end ≡ DiskFault → ⊥) → IsFirm after
  pub stops : IsTrue told → LeavesOnly (MayLeave (now before)) before after
  pub syncs : after.syncs ≤ before.syncs + 1

-- which lines were taken when the end came, and what of the input had been taken then
abbrev pub TakenAt : DayEnd → List ℕ → List ℕ → List (List ℕ) → Type 0
TakenAt Done taken left lines = ReadsAll taken left lines
TakenAt ReadFault taken left lines = BreaksAfter taken lines
TakenAt PrintFault taken left lines = StopsWithin taken lines
TakenAt DiskFault taken left lines = StopsWithin taken lines
TakenAt (Damaged place why) taken left lines = ⊥
TakenAt (OtherDay k) taken left lines = StopsInLimit taken lines
TakenAt (LongLine k) taken left lines = LongAfter k taken left lines
TakenAt LongFile taken left lines = PastLimit taken lines
TakenAt (JournalFull need left_over) taken left lines = StopsInLimit taken lines
TakenAt OutOfMemory taken left lines = StopsWithin taken lines

-- these bytes of the input were taken in the call, and these lines are its first commands
pub record TakesDay (old new : Feed) (lines : List (List ℕ)) (end : DayEnd) : Type 0 where
  pub taken : List ℕ
  pub moved : old.left ≡ taken ++ new.left
  pub first : IsFront lines (commands old.left)
  pub at : TakenAt end taken new.left lines

-- what was printed when the end came: the text of the entries done, after a print fault a front of the text of all, and
-- after a disk fault what `stops` says
abbrev pub PrintsDay : DayEnd → List ℕ → List ℕ → Sight → Sight → Type 0
PrintsDay Done done all old new = new.printed ≡ old.printed ++ done
PrintsDay ReadFault done all old new = new.printed ≡ old.printed ++ done
PrintsDay PrintFault done all old new = PrintsFront all old new
PrintsDay DiskFault done all old new = Unit {0}
PrintsDay (Damaged place why) done all old new = ⊥
PrintsDay (OtherDay k) done all old new = new.printed ≡ old.printed ++ done
PrintsDay (LongLine k) done all old new = new.printed ≡ old.printed ++ done
PrintsDay LongFile done all old new = new.printed ≡ old.printed ++ done
PrintsDay (JournalFull need left) done all old new = new.printed ≡ old.printed ++ done
PrintsDay OutOfMemory done all old new = new.printed ≡ old.printed ++ done

-- a device at rest with these entries, in a journal of this edition
pub record HasAtRest (edition : ℕ) (entries : List EntryRecord) (s : Sight) : Type 0 where
  pub tail : ℕ
  pub rest : AtRest tail edition (records_of entries) s

-- a line isn't the first of these
abbrev pub IsNotFirst : List ℕ → List (List ℕ) → Type 0
IsNotFirst line [] = Unit {0}
IsNotFirst line (command ∷ commands) = command ≢ line

-- behind these lines, which the file begins with, it ends, or goes on with another line than this one
pub record DiffersAt (line : List ℕ) (lines file_commands : List (List ℕ)) : Type 0 where
  pub rest : List (List ℕ)
  pub parts : file_commands ≡ lines ++ rest
  pub other : IsNotFirst line rest

-- behind these lines, which the file begins with, it ends, or its next command isn't long
pub record NextIsShort (lines file_commands : List (List ℕ)) : Type 0 where
  pub rest : List (List ℕ)
  pub parts : file_commands ≡ lines ++ rest
  pub short : FirstIsLong rest → ⊥

-- the found entry number k isn't of the file's command k, which isn't long, or the file ends before it
pub record NextIsOther (source_tells site_tells : Bool) (k : ℕ) (old : Feed) (before after : Sight) (found done : List EntryRecord) : Type 0 where
  pub number : k ≡ length done + 1
  pub kept : EntryRecord
  pub behind : List EntryRecord
  pub parts : found ≡ done ++ kept ∷ behind
  pub differs : IsTrue source_tells → DiffersAt kept.line (lines_of done) (commands old.left)
  pub short : IsTrue source_tells → NextIsShort (lines_of done) (commands old.left)
  pub unwritten : IsTrue site_tells → after.bytes ≡ before.bytes

-- the file has one command more, with whose entry the history stays legal, and whose record doesn't fit behind all
pub record FitsNot (source_tells site_tells : Bool) (need left : ℕ) (old : Feed) (before : Sight) (all : List EntryRecord) (edition : ℕ) : Type 0 where
  pub entry : EntryRecord
  pub edition_is : entry.edition ≡ edition
  pub next : AreNext opening 0 (all ++ entry ∷ [])
  pub command : IsTrue source_tells → IsFront (lines_of all ++ entry.line ∷ []) (commands old.left)
  pub need_is : need ≡ length (record_text entry) + 6
  pub left_is : IsTrue site_tells → left + (16 + frames_length (records_of all)) ≡ before.size
  pub short : left < need

-- the entries done are the first of those found, and no more were added, or they are all
abbrev pub HasDone : List EntryRecord → List EntryRecord → List EntryRecord → Type 0
HasDone found all done = ((all ≡ found) × IsFront done found) ⊎ (done ≡ all)

-- what else stands where the end came: at the end of input and at a full journal all entries are done
abbrev pub Because : Bool → Bool → Feed → Sight → Sight → List EntryRecord → List EntryRecord → List EntryRecord → ℕ → DayEnd → Type 0
Because s t old before after found all done edition Done = done ≡ all
Because s t old before after found all done edition ReadFault = Unit {0}
Because s t old before after found all done edition PrintFault = Unit {0}
Because s t old before after found all done edition DiskFault = Unit {0}
Because s t old before after found all done edition (Damaged place why) = ⊥
Because s t old before after found all done edition (OtherDay k) = NextIsOther s t k old before after found done
Because s t old before after found all done edition (LongLine k) = Unit {0}
Because s t old before after found all done edition LongFile = Unit {0}
Because s t old before after found all done edition (JournalFull need left) = (done ≡ all) × FitsNot s t need left old before all edition
Because s t old before after found all done edition OutOfMemory = Unit {0}

-- So few syncs were made for the entries behind those found: one at the opening, and two for each append, of which there is
-- one for each whole group, two for a cycle, and one more.
pub record FewSyncs (before : Sight) (found all : List EntryRecord) (after : Sight) : Type 0 where
  pub added : List EntryRecord
  pub parts : all ≡ found ++ added
  pub syncs : after.syncs ≤ before.syncs + (1 + 2 * (length added / most_payloads + 2 * cycles_in added + 1))

-- the lines of the found entries are the file's first commands, or nothing was written
abbrev pub GoesBehind : Bool → Bool → Feed → Sight → Sight → List EntryRecord → Type 0
GoesBehind source_tells site_tells old before after found = (IsTrue source_tells → IsFront (lines_of found) (commands old.left)) ⊎ (IsTrue site_tells → after.bytes ≡ before.bytes)

-- A history was found, in a journal of this edition. All entries are those found and those that the device has behind them at the end, or may have after
-- a disk fault; those done are the ones whose lines were taken from the file.
pub record Opened (source_tells site_tells : Bool) (old new : Feed) (before after : Sight) (end : DayEnd) : Type 0 where
  pub found : List EntryRecord
  pub all : List EntryRecord
  pub done : List EntryRecord
  pub edition : ℕ
  pub spelled : IsTrue site_tells → Spells before.bytes found
  pub header : IsTrue site_tells → Holds edition (records_of found) before.bytes
  pub entries : AreEntries edition found all
  pub far : HasDone found all done
  pub input : IsTrue source_tells → TakesDay old new (lines_of done) end
  pub text : IsTrue site_tells → PrintsDay end (text_of done) (text_of all) before after
  pub rest : IsTrue site_tells → (end ≡ DiskFault → ⊥) → HasAtRest edition all after
  pub stops : IsTrue site_tells → LeavesOnly (LeavesDay before found all) before after
  pub behind : GoesBehind source_tells site_tells old before after found
  pub syncs : (end ≡ DiskFault → ⊥) → FewSyncs before found all after
  pub because : Because source_tells site_tells old before after found all done edition end

-- damage, or a cause that comes before it
abbrev pub IsDamage : ℕ → Damage → DayEnd → Type 0
IsDamage place why end = (end ≡ Damaged place why) ⊎ ((end ≡ DiskFault) ⊎ (end ≡ OutOfMemory))

-- What a day over its journal took, printed and left, and why it ended so.
pub record DayRun (source_tells site_tells : Bool) (old new : Feed) (before after : Sight) (end : DayEnd) : Type 0 where
  pub counts : FaultsRose old new before after end
  pub told : IsTrue site_tells → TellsAll before
  pub told_after : IsTrue site_tells → TellsAll after
  pub damaged : IsTrue site_tells → (place : ℕ) (why : Damage) → end ≡ Damaged place why → DamagedAt before.bytes place why
  pub no_history : IsTrue site_tells → (place : ℕ) (why : Damage) → end ≡ Damaged place why → (history : List EntryRecord) → SpellsLegal before.bytes history → ⊥
  pub damaged_only : IsTrue site_tells → (place : ℕ) (why : Damage) → DamagedAt before.bytes place why → IsDamage place why end
  pub came : Unopened site_tells old new before after end ⊎ Opened source_tells site_tells old new before after end
