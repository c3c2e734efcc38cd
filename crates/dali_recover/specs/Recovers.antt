use Rattle.std.specs.Prelude.{◌≡◌, ◌⊎◌, ℕ, ◌+◌, ◌≤◌, Bool, true, IsTrue, List, length}
use Rattle.dali_outside.specs.Outside.{Sight, Goes, now}
use Rattle.dali_outside.specs.Stops.{MayLeave, LeavesOnly}
use Rattle.dali_entry.specs.EntryRecord.{EntryRecord}
use Rattle.dali_machine.specs.History.{IsLegal, state_of}
use Rattle.dali_machine.specs.Machine.{opening}
use Rattle.dali_journal.specs.Appends.{AtRest, IsFirm}
use Rattle.dali_journal.specs.Frames.{frames_length}
use Rattle.dali_journal.specs.declared.refusal.OpenNo.{OpenNo}
use Rattle.dali_journal.specs.declared.refusal.OpenNo.TheVariants as unopened
use Rattle.dali_recover.specs.Reported.{AreReported}
use Rattle.dali_recover.specs.Spells.{records_of, AreEntriesIn, EachSpells}
use Rattle.dali_recover.specs.declared.found.Found.{Found}
use Rattle.dali_recover.specs.declared.refusal.RecoverNo.{RecoverNo}
use Rattle.dali_recover.specs.declared.refusal.RecoverNo.TheVariants as errors

-- a history that was read up to the journal's tail, on a device of this size, whatever the site tells: its entries are
-- legal, and the journal's edition can hold them; what is answered to them is true; the state is theirs; and the tail stands
-- behind their records
pub record IsReadTo (size : ℕ) (found : Found) : Type 0 where
  pub entries : AreEntriesIn found.journal.edition found.entries
  pub legal : IsLegal found.entries
  pub reported : AreReported opening found.entries
  pub state : found.state.machine ≡ state_of found.entries
  pub counted : found.state.machine.commands ≡ length found.entries
  pub place : found.journal.tail ≡ 16 + frames_length (records_of found.entries)
  pub whole : found.journal.tail + found.journal.left ≡ size

-- what is found: a history that was read up to the journal's closed gate
pub record IsFound (size : ℕ) (found : Found) : Type 0 where
  pub read : IsReadTo size found
  pub ended : found.journal.ended ≡ true

-- the device holds exactly the records of the found entries, with the closed gate at the journal's tail, and nothing is
-- loose; and every image that a stop now may leave spells them
pub record RestsWith (found : Found) (s : Sight) : Type 0 where
  pub rest : AtRest found.journal.tail found.journal.edition (records_of found.entries) s
  pub images : EachSpells found.entries s

-- a failure of the disk, or want of memory
abbrev pub IsWant : RecoverNo → Type 0
IsWant e = (e ≡ errors.DiskFault) ⊎ (e ≡ errors.OutOfMemory)

-- the same answer, of a journal that can't be opened or read on
abbrev pub no_of : OpenNo → RecoverNo
no_of unopened.DiskFault = errors.DiskFault
no_of (unopened.Damaged place why) = errors.Damaged place why
no_of unopened.OutOfMemory = errors.OutOfMemory
