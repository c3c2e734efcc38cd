use Rattle.std.specs.Prelude.{◌≡◌, ◌⊎◌, ℕ, ◌+◌, ◌≤◌, ◌<◌, Bool, IsTrue, List, ◌++◌, length}
use Rattle.dali_base.specs.Limits.{newest_edition}
use Rattle.dali_outside.specs.Outside.{Sight, Rose, Goes, TellsAll, now}
use Rattle.dali_outside.specs.Stops.{MayLeave, MightHaveLeft, LeavesOnly}
use Rattle.dali_entry.specs.EntryRecord.{EntryRecord}
use Rattle.dali_journal.specs.Appends.{IsFirm, StaysOutside}
use Rattle.dali_journal.specs.declared.refusal.Damage.{Damage}
use Rattle.dali_recover.specs.Spells.{SpellsLegal}
use Rattle.dali_recover.specs.Damaged.{DamagedAt}
use Rattle.dali_upkeep.specs.Editions.{SpellsIn, SpellsInEither, raised_edition, raised_bytes}
use Rattle.dali_upkeep.specs.declared.raise.RaiseEnd.{RaiseEnd}
use Rattle.dali_upkeep.specs.declared.raise.RaiseEnd.TheVariants.{Done, DiskFault, Damaged, OutOfMemory}

-- The journal was raised: nothing is loose, and the device and every image that a stop now may leave spell the history that
-- was found, in the next edition, where there is one. No other byte changed than the one that says so.
pub record RaisesTo (old new : Sight) : Type 0 where
  pub edition : ℕ
  pub history : List EntryRecord
  pub found : SpellsIn edition history old.bytes
  pub bytes : new.bytes ≡ raised_bytes edition old.bytes
  pub firm : IsFirm new
  pub spelled : SpellsIn (raised_edition edition) history new.bytes
  pub images : (image text : List ℕ) → MightHaveLeft new (length new.past) image text → SpellsIn (raised_edition edition) history image

-- the disk failed while the journal was raised: any byte may stand for the next edition, and all others are as before
pub record RaisesInPart (old new : Sight) : Type 0 where
  pub edition : ℕ
  pub history : List EntryRecord
  pub found : SpellsIn edition history old.bytes
  pub below : edition < newest_edition
  pub outside : StaysOutside (11 + edition) 1 old new

-- what stands on the disk when a raise ended so
abbrev pub RaiseLeaves : RaiseEnd → Sight → Sight → Type 0
RaiseLeaves Done old new = RaisesTo old new
RaiseLeaves DiskFault old new = (new.bytes ≡ old.bytes) ⊎ RaisesInPart old new
RaiseLeaves (Damaged place why) old new = (new.bytes ≡ old.bytes) × IsFirm new
RaiseLeaves OutOfMemory old new = (new.bytes ≡ old.bytes) × IsFirm new

-- an image of a raise: the bytes that stood at the start spell a history in an edition that has a next one, and the image
-- spells it in that edition or the next; nothing was printed
pub record RaisesWithin (old : Sight) (image text : List ℕ) : Type 0 where
  pub edition : ℕ
  pub history : List EntryRecord
  pub found : SpellsIn edition history old.bytes
  pub below : edition < newest_edition
  pub one : SpellsInEither edition history image
  pub silent : text ≡ old.printed

-- what a stop within a raise may leave: what one at the start may leave, or an image of the raise
abbrev pub LeavesRaise : Sight → List ℕ → List ℕ → Type 0
LeavesRaise old image text = MayLeave (now old) image text ⊎ RaisesWithin old image text

-- every image that a stop at the start may leave has P
abbrev pub EachAtStart : Sight → (List ℕ → Type 0) → Type 0
EachAtStart old P = (image text : List ℕ) → MayLeave (now old) image text → P image

-- every image that a stop since the start may leave has P
abbrev pub EachSince : Sight → Sight → (List ℕ → Type 0) → Type 0
EachSince old new P = (image text : List ℕ) → MightHaveLeft new (length old.past) image text → P image

-- an image spells some legal history
pub record SpellsOne (image : List ℕ) : Type 0 where
  pub history : List EntryRecord
  pub legal : SpellsLegal image history

-- an image spells a history that some image at the start spells, in that image's edition or the next
pub record ComesFrom (old : Sight) (image : List ℕ) : Type 0 where
  pub start : List ℕ
  pub text : List ℕ
  pub left : MayLeave (now old) start text
  pub edition : ℕ
  pub history : List EntryRecord
  pub found : SpellsIn edition history start
  pub one : SpellsInEither edition history image

-- an image spells a legal history that begins with this one
pub record BeginsWith (front : List EntryRecord) (image : List ℕ) : Type 0 where
  pub history : List EntryRecord
  pub legal : SpellsLegal image history
  pub rest : List EntryRecord
  pub parts : history ≡ front ++ rest

-- the ends that come without a fault
abbrev pub RaisesUnfailed : RaiseEnd → Type 0
RaisesUnfailed Done = Unit {0}
RaisesUnfailed DiskFault = ⊥
RaisesUnfailed (Damaged place why) = Unit {0}
RaisesUnfailed OutOfMemory = Unit {0}

-- What a run of `raise` does: it recovers the history that the device spells, and brings its journal to the next edition,
-- where there is one. Whatever moment a stop comes at, the history is spelled as before, in the edition of before or the
-- next.
pub record RaiseRun (tells : Bool) (old new : Sight) (answer : RaiseEnd) : Type 0 where
  -- a fault comes only where its count rose
  pub disk_fault : answer ≡ DiskFault → Rose old.disk_faults new.disk_faults
  pub goes : Goes old new
  pub syncs : new.syncs ≤ old.syncs + 2
  -- what stands at the end, and nothing is printed
  pub leaves : IsTrue tells → RaiseLeaves answer old new
  pub silent : IsTrue tells → new.printed ≡ old.printed
  -- the site tells a byte and a mark for each place, so that each image is as long as the device
  pub whole : IsTrue tells → TellsAll new
  -- a device is called damaged exactly where it is, at the first place and for the first reason, unless the disk failed or
  -- memory was wanted
  pub damaged : IsTrue tells → (place : ℕ) (why : Damage) → answer ≡ Damaged place why → DamagedAt old.bytes place why
  pub only : IsTrue tells → (place : ℕ) (why : Damage) → DamagedAt old.bytes place why →
      (answer ≡ Damaged place why) ⊎ ((answer ≡ DiskFault) ⊎ (answer ≡ OutOfMemory))
  -- at every moment since the start
  pub stops : IsTrue tells → LeavesOnly (LeavesRaise old) old new
  -- where every image at the start spells one history in one edition, every image since spells it, in that edition or the
  -- next
  pub one : IsTrue tells → (edition : ℕ) (history : List EntryRecord) → EachAtStart old (SpellsIn edition history) → EachSince old new (SpellsInEither edition history)
  -- where every image at the start spells a legal history, every image since spells one that some image at the start spells,
  -- in that image's edition or the next; and so it begins with each one that all of those at the start begin with
  pub each : IsTrue tells → EachAtStart old SpellsOne → EachSince old new (ComesFrom old)
  pub begins : IsTrue tells → (front : List EntryRecord) → EachAtStart old (BeginsWith front) → EachSince old new (BeginsWith front)
  -- where no count rose, it ends with Done, Damaged or want of memory, and not with Damaged where the journal is sound
  pub unfailed : (Rose old.disk_faults new.disk_faults → ⊥) → RaisesUnfailed answer
  pub complete : IsTrue tells → (history : List EntryRecord) → SpellsLegal old.bytes history → (Rose old.disk_faults new.disk_faults → ⊥) → (answer ≡ Done) ⊎ (answer ≡ OutOfMemory)
