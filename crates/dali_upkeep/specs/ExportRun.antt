use Rattle.std.specs.Prelude.{◌≡◌, ◌≢◌, ◌⊎◌, ℕ, ◌+◌, ◌≤◌, Bool, IsTrue, List, ◌++◌, length, take}
use Rattle.dali_outside.specs.Outside.{Sight, Rose, Goes, TellsAll, now}
use Rattle.dali_outside.specs.Stops.{MayLeave, MightHaveLeft, LeavesOnly}
use Rattle.dali_entry.specs.EntryRecord.{EntryRecord}
use Rattle.dali_journal.specs.Appends.{IsFirm}
use Rattle.dali_journal.specs.declared.refusal.Damage.{Damage}
use Rattle.dali_machine.specs.History.{state_of}
use Rattle.dali_statement.specs.Export.{table}
use Rattle.dali_recover.specs.Spells.{SpellsLegal}
use Rattle.dali_recover.specs.Damaged.{DamagedAt}
use Rattle.dali_upkeep.specs.declared.export.ExportEnd.{ExportEnd}
use Rattle.dali_upkeep.specs.declared.export.ExportEnd.TheVariants.{Done, PrintFault, DiskFault, Damaged, OutOfMemory}

-- the table of a history: all postings of the state after it
abbrev pub table_of : List EntryRecord → List ℕ
table_of history = table (state_of history).postings

-- these bytes spell a legal history, and behind what was printed before stands its whole table
pub record ExportsAll (bytes before printed : List ℕ) : Type 0 where
  pub history : List EntryRecord
  pub spelled : SpellsLegal bytes history
  pub whole : printed ≡ before ++ table_of history

-- these bytes spell a legal history, and behind what was printed before stand the first n bytes of its table
pub record ExportsFront (bytes before printed : List ℕ) : Type 0 where
  pub history : List EntryRecord
  pub spelled : SpellsLegal bytes history
  pub n : ℕ
  pub front : printed ≡ before ++ take n (table_of history)

-- what was printed when an export ended so
abbrev pub ExportPrints : ExportEnd → Sight → Sight → Type 0
ExportPrints Done old new = ExportsAll old.bytes old.printed new.printed
ExportPrints PrintFault old new = ExportsFront old.bytes old.printed new.printed
ExportPrints DiskFault old new = new.printed ≡ old.printed
ExportPrints (Damaged place why) old new = new.printed ≡ old.printed
ExportPrints OutOfMemory old new = new.printed ≡ old.printed

-- How an export of a device that spells this history ends, and what it has printed then: the history's table; a front of
-- it; or nothing, where the disk failed or memory was wanted. It isn't called damaged.
abbrev pub ExportsHistory : ExportEnd → List EntryRecord → Sight → Sight → Type 0
ExportsHistory Done history old new = new.printed ≡ old.printed ++ table_of history
ExportsHistory PrintFault history old new = (n : ℕ) × (new.printed ≡ old.printed ++ take n (table_of history))
ExportsHistory DiskFault history old new = new.printed ≡ old.printed
ExportsHistory (Damaged place why) history old new = ⊥
ExportsHistory OutOfMemory history old new = new.printed ≡ old.printed

-- What a stop within an export may leave: what one at the start may leave, with nothing printed since; or the bytes that
-- stood at the start, with a front of the table of the history that they spell.
abbrev pub LeavesExport : Sight → List ℕ → List ℕ → Type 0
LeavesExport old image text = MayLeave (now old) image text ⊎ ((image ≡ old.bytes) × ExportsFront old.bytes old.printed text)

-- no stop now may leave another image than these bytes
abbrev pub EachIs : List ℕ → Sight → Type 0
EachIs bytes s = (image text : List ℕ) → MightHaveLeft s (length s.past) image text → image ≡ bytes

-- the ends that come without a fault
abbrev pub ExportsUnfailed : ExportEnd → Type 0
ExportsUnfailed Done = Unit {0}
ExportsUnfailed PrintFault = ⊥
ExportsUnfailed DiskFault = ⊥
ExportsUnfailed (Damaged place why) = Unit {0}
ExportsUnfailed OutOfMemory = Unit {0}

-- What a run of `export` does: it recovers the history that the device spells, and prints the table of its postings. After
-- Done the whole table of the one history was printed, and at every moment a front of it.
pub record ExportRun (tells : Bool) (old new : Sight) (answer : ExportEnd) : Type 0 where
  -- a fault comes only where its count rose
  pub disk_fault : answer ≡ DiskFault → Rose old.disk_faults new.disk_faults
  pub print_fault : answer ≡ PrintFault → Rose old.print_faults new.print_faults
  pub goes : Goes old new
  -- nothing is written, and one sync makes firm what was loose; so unless the disk failed, no stop may then leave another
  -- image than the bytes that stood at the start
  pub bytes : IsTrue tells → new.bytes ≡ old.bytes
  pub firm : IsTrue tells → answer ≢ DiskFault → IsFirm new
  pub images : IsTrue tells → answer ≢ DiskFault → EachIs old.bytes new
  pub syncs : new.syncs ≤ old.syncs + 1
  -- the site tells a byte and a mark for each place, so that each image is as long as the device
  pub whole : IsTrue tells → TellsAll new
  -- what was printed; and where the device spells a history, what was printed of its table
  pub prints : IsTrue tells → ExportPrints answer old new
  pub spelled : IsTrue tells → (history : List EntryRecord) → SpellsLegal old.bytes history → ExportsHistory answer history old new
  -- a device is called damaged exactly where it is, at the first place and for the first reason, unless the disk failed or
  -- memory was wanted
  pub damaged : IsTrue tells → (place : ℕ) (why : Damage) → answer ≡ Damaged place why → DamagedAt old.bytes place why
  pub only : IsTrue tells → (place : ℕ) (why : Damage) → DamagedAt old.bytes place why →
      (answer ≡ Damaged place why) ⊎ ((answer ≡ DiskFault) ⊎ (answer ≡ OutOfMemory))
  -- at every moment since the start
  pub stops : IsTrue tells → LeavesOnly (LeavesExport old) old new
  -- where no count rose, it ends with Done, Damaged or want of memory, and not with Damaged where the journal is sound
  pub unfailed : (Rose old.disk_faults new.disk_faults → ⊥) → (Rose old.print_faults new.print_faults → ⊥) → ExportsUnfailed answer
  pub complete : IsTrue tells → (history : List EntryRecord) → SpellsLegal old.bytes history →
      (Rose old.disk_faults new.disk_faults → ⊥) → (Rose old.print_faults new.print_faults → ⊥) → (answer ≡ Done) ⊎ (answer ≡ OutOfMemory)
