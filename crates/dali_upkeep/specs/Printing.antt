use Rattle.std.specs.Prelude.{◌≡◌, ℕ, ◌≤◌, Bool, IsTrue, List, ◌++◌, take}
use Rattle.dali_outside.specs.Outside.{Sight, Rose, Goes, SameDisk, TellsAll}
use Rattle.dali_outside.specs.Stops.{IsImage, LeavesOnly}
use Rattle.dali_ledger.specs.declared.posting.Posting.{Posting}
use Rattle.dali_statement.specs.Export.{table}
use Rattle.dali_recover.specs.declared.refusal.RecoverNo.{RecoverNo}
use Rattle.dali_recover.specs.declared.refusal.RecoverNo.TheVariants as errors
use Rattle.dali_upkeep.specs.declared.export.ExportEnd.{ExportEnd}
use Rattle.dali_upkeep.specs.declared.export.ExportEnd.TheVariants.{Done, PrintFault, DiskFault, Damaged, OutOfMemory}

-- The printing of a table on a device that was recovered, for a private function.

-- how an export ends that found no history
abbrev pub unexported : RecoverNo → ExportEnd
unexported errors.DiskFault = DiskFault
unexported (errors.Damaged place why) = Damaged place why
unexported errors.OutOfMemory = OutOfMemory

-- the disk of before, and the first n bytes of the text behind what was printed before
pub record LeavesFront (text : List ℕ) (old : Sight) (image printed : List ℕ) : Type 0 where
  pub disk : IsImage old.bytes old.loose image
  pub n : ℕ
  pub front : printed ≡ old.printed ++ take n text

-- what was printed of a text when it ended so
abbrev pub PrintsOf : ExportEnd → List ℕ → Sight → Sight → Type 0
PrintsOf Done text old new = new.printed ≡ old.printed ++ text
PrintsOf PrintFault text old new = (n : ℕ) × (new.printed ≡ old.printed ++ take n text)
PrintsOf DiskFault text old new = ⊥
PrintsOf (Damaged place why) text old new = ⊥
PrintsOf OutOfMemory text old new = new.printed ≡ old.printed

-- the ends of printing, and a print fault where its count rose
abbrev pub EndsPrinting : ExportEnd → Sight → Sight → Type 0
EndsPrinting Done old new = Unit {0}
EndsPrinting PrintFault old new = Rose old.print_faults new.print_faults
EndsPrinting DiskFault old new = ⊥
EndsPrinting (Damaged place why) old new = ⊥
EndsPrinting OutOfMemory old new = Unit {0}

-- what printing the table of these postings comes to
pub record PrintsTable (tells : Bool) (postings : List Posting) (old new : Sight) (answer : ExportEnd) : Type 0 where
  pub ends : EndsPrinting answer old new
  pub told : IsTrue tells → TellsAll old
  pub disk : IsTrue tells → SameDisk old new
  pub prints : IsTrue tells → PrintsOf answer (table postings) old new
  pub stops : IsTrue tells → LeavesOnly (LeavesFront (table postings) old) old new
  pub goes : Goes old new
  pub syncs : new.syncs ≤ old.syncs
