-- What recovery did to a device: the two ends of it, for the words that recover.
use Rattle.std.proofs.Common.{◌≡◌, ◌⊎◌, ℕ, ◌+◌, ◌≤◌, Bool, List, subst}
use Rattle.std.specs.Prelude.{IsTrue}
use Rattle.dali_outside.specs.Outside.{Sight, Rose, Goes, now}
use Rattle.dali_outside.specs.Stops.{MayLeave, LeavesOnly}
use Rattle.dali_entry.specs.EntryRecord.{EntryRecord}
use Rattle.dali_journal.specs.Holds.{Holds, HoldsAt}
use Rattle.dali_journal.specs.Appends.{IsFirm}
use Rattle.dali_journal.specs.declared.refusal.Damage.{Damage}
use Rattle.dali_recover.specs.Spells.{records_of, SpellsLegal}
use Rattle.dali_recover.specs.Damaged.{DamagedAt}
use Rattle.dali_recover.specs.Recovers.{IsFound, RestsWith, IsWant}
use Rattle.dali_recover.specs.declared.found.Found.{Found}
use Rattle.dali_recover.specs.declared.refusal.RecoverNo.{RecoverNo}
use Rattle.dali_recover.specs.declared.refusal.RecoverNo.TheVariants as errors

-- a history was found
pub record Finds (tells : Bool) (old mid : Sight) (found : Found) : Type 0 where
  pub is : IsFound old.size found
  pub rests : IsTrue tells → RestsWith found mid
  pub bytes : IsTrue tells → mid.bytes ≡ old.bytes
  pub stops : IsTrue tells → LeavesOnly (MayLeave (now old)) old mid
  pub silent : IsTrue tells → mid.printed ≡ old.printed
  pub goes : Goes old mid
  pub syncs : mid.syncs ≤ old.syncs + 1
  pub spelled : IsTrue tells → (history : List EntryRecord) → SpellsLegal old.bytes history → found.entries ≡ history
  pub only : IsTrue tells → (place : ℕ) (why : Damage) → DamagedAt old.bytes place why → ⊥

-- the bytes of before hold its records, and spell it
pub found_holds : (tells : Bool) (old mid : Sight) (found : Found) → Finds tells old mid found → IsTrue tells → Holds found.journal.edition (records_of found.entries) old.bytes
found_holds tells old mid found f t = record {
  tail = found.journal.tail;
  at = subst (λ (bs : List ℕ). HoldsAt found.journal.tail found.journal.edition (records_of found.entries) bs) (f.bytes t) (f.rests t).rest.holds;
}

pub found_legal : (tells : Bool) (old mid : Sight) (found : Found) → Finds tells old mid found → IsTrue tells → SpellsLegal old.bytes found.entries
found_legal tells old mid found f t = record {
  spells = record { edition = found.journal.edition; holds = found_holds tells old mid found f t; entries = f.is.read.entries };
  legal = f.is.read.legal;
}

-- none was found, and this was answered
pub record Refuses (tells : Bool) (old new : Sight) (refusal : RecoverNo) : Type 0 where
  pub damaged : IsTrue tells → (place : ℕ) (why : Damage) → refusal ≡ errors.Damaged place why → DamagedAt old.bytes place why
  pub spelled : IsTrue tells → (history : List EntryRecord) → SpellsLegal old.bytes history → IsWant refusal
  pub only : IsTrue tells → (place : ℕ) (why : Damage) → DamagedAt old.bytes place why → (refusal ≡ errors.Damaged place why) ⊎ IsWant refusal
  pub fault : refusal ≡ errors.DiskFault → Rose old.disk_faults new.disk_faults
  pub bytes : IsTrue tells → new.bytes ≡ old.bytes
  pub firm : IsTrue tells → (refusal ≡ errors.DiskFault → ⊥) → IsFirm new
  pub stops : IsTrue tells → LeavesOnly (MayLeave (now old)) old new
  pub silent : IsTrue tells → new.printed ≡ old.printed
  pub goes : Goes old new
  pub syncs : new.syncs ≤ old.syncs + 1
