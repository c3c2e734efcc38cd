use Rattle.std.specs.Prelude.{◌≡◌, ◌⊎◌, ℕ, ◌+◌, ◌≤◌, ◌<◌, Bool, IsTrue, List}
use Rattle.dali_base.specs.Limits.{newest_edition}
use Rattle.dali_outside.specs.Outside.{Sight, Rose, Goes, TellsAll, now}
use Rattle.dali_outside.specs.Stops.{MayLeave, LeavesOnly}
use Rattle.dali_journal.specs.Appends.{AtRest, EachHolds, EitherEdition, StaysOutside}
use Rattle.dali_recover.specs.declared.refusal.RecoverNo.{RecoverNo}
use Rattle.dali_recover.specs.declared.refusal.RecoverNo.TheVariants as errors
use Rattle.dali_upkeep.specs.Editions.{raised_edition, raised_bytes}
use Rattle.dali_upkeep.specs.declared.raise.RaiseEnd.{RaiseEnd}
use Rattle.dali_upkeep.specs.declared.raise.RaiseEnd.TheVariants.{Done, DiskFault, Damaged, OutOfMemory}

-- The raising of a journal that was recovered, for a private function.

-- how a raise ends that found no history
abbrev pub unraised : RecoverNo → RaiseEnd
unraised errors.DiskFault = DiskFault
unraised (errors.Damaged place why) = Damaged place why
unraised errors.OutOfMemory = OutOfMemory

-- a journal of this edition, which held a list at rest, holds it in the next one, where there is one
pub record RaisedAt (edition : ℕ) (old new : Sight) : Type 0 where
  pub bytes : new.bytes ≡ raised_bytes edition old.bytes
  pub rest : (tail : ℕ) (list : List (List ℕ)) → AtRest tail edition list old → AtRest tail (raised_edition edition) list new
  pub images : (tail : ℕ) (list : List (List ℕ)) → AtRest tail edition list old → EachHolds (raised_edition edition) list new

-- the disk failed while it was raised
pub record TornAt (edition : ℕ) (old new : Sight) : Type 0 where
  pub below : edition < newest_edition
  pub outside : StaysOutside (11 + edition) 1 old new

-- what raising came to
abbrev pub RaisesAs : RaiseEnd → ℕ → Sight → Sight → Type 0
RaisesAs Done edition old new = RaisedAt edition old new
RaisesAs DiskFault edition old new = TornAt edition old new
RaisesAs (Damaged place why) edition old new = ⊥
RaisesAs OutOfMemory edition old new = ⊥

-- what a stop leaves: what it left before, or the list in this edition, which has a next one, or in that
abbrev pub LeavesFound : ℕ → ℕ → List (List ℕ) → Sight → List ℕ → List ℕ → Type 0
LeavesFound tail edition list old image text = MayLeave (now old) image text ⊎ ((edition < newest_edition) × EitherEdition tail edition list old.printed image text)

pub record RaisesFound (tells : Bool) (edition : ℕ) (old new : Sight) (answer : RaiseEnd) : Type 0 where
  pub came : IsTrue tells → RaisesAs answer edition old new
  pub ends : (answer ≡ Done) ⊎ ((answer ≡ DiskFault) × Rose old.disk_faults new.disk_faults)
  pub stops : IsTrue tells → (tail : ℕ) (list : List (List ℕ)) → AtRest tail edition list old → LeavesOnly (LeavesFound tail edition list old) old new
  pub silent : IsTrue tells → new.printed ≡ old.printed
  pub whole : IsTrue tells → TellsAll new
  pub goes : Goes old new
  pub syncs : new.syncs ≤ old.syncs + 1
