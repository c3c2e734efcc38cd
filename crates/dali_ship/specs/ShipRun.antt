use Rattle.std.specs.Prelude.{◌≡◌, ◌≢◌, ◌⊎◌, ℕ, ◌+◌, ◌≤◌, Bool, IsTrue, List, ◌++◌, take}
use Rattle.dali_outside.specs.Outside.{Sight, Rose, Goes, TellsAll, now}
use Rattle.dali_outside.specs.Stops.{MayLeave, LeavesOnly}
use Rattle.dali_entry.specs.EntryRecord.{EntryRecord}
use Rattle.dali_journal.specs.Appends.{IsFirm}
use Rattle.dali_journal.specs.declared.refusal.Damage.{Damage}
use Rattle.dali_recover.specs.Spells.{SpellsLegal}
use Rattle.dali_recover.specs.Damaged.{DamagedAt}
use Rattle.dali_replica.specs.Stream.{HasFrames}
use Rattle.dali_upkeep.specs.ExportRun.{EachIs}
use Rattle.dali_replica.specs.Shipping.{frames_of, shipped}
use Rattle.dali_ship.specs.declared.ship.ShipEnd.{ShipEnd}
use Rattle.dali_ship.specs.declared.ship.ShipEnd.TheVariants.{Done, PrintFault, DiskFault, Damaged, OutOfMemory}

-- these bytes spell a legal history, and behind what was printed before stand all its frames, which a reader of the printed
-- bytes gets back
pub record ShipsAll (bytes before printed : List ℕ) : Type 0 where
  pub history : List EntryRecord
  pub spelled : SpellsLegal bytes history
  pub whole : printed ≡ before ++ shipped history
  pub frames : HasFrames (shipped history) (frames_of history)

-- these bytes spell a legal history, and behind what was printed before stand the first n bytes of its frames
pub record ShipsFront (bytes before printed : List ℕ) : Type 0 where
  pub history : List EntryRecord
  pub spelled : SpellsLegal bytes history
  pub n : ℕ
  pub front : printed ≡ before ++ take n (shipped history)

-- what was printed when a ship ended so
abbrev pub ShipPrints : ShipEnd → Sight → Sight → Type 0
ShipPrints Done old new = ShipsAll old.bytes old.printed new.printed
ShipPrints PrintFault old new = ShipsFront old.bytes old.printed new.printed
ShipPrints DiskFault old new = new.printed ≡ old.printed
ShipPrints (Damaged place why) old new = new.printed ≡ old.printed
ShipPrints OutOfMemory old new = (new.printed ≡ old.printed) ⊎ ShipsFront old.bytes old.printed new.printed

-- How a ship of a device that spells this history ends, and what it has printed then: the frames of the history; a front of
-- them; or nothing, where the disk failed. It isn't called damaged.
abbrev pub ShipsHistory : ShipEnd → List EntryRecord → Sight → Sight → Type 0
ShipsHistory Done history old new = new.printed ≡ old.printed ++ shipped history
ShipsHistory PrintFault history old new = (n : ℕ) × (new.printed ≡ old.printed ++ take n (shipped history))
ShipsHistory DiskFault history old new = new.printed ≡ old.printed
ShipsHistory (Damaged place why) history old new = ⊥
ShipsHistory OutOfMemory history old new = (n : ℕ) × (new.printed ≡ old.printed ++ take n (shipped history))

-- What a stop within a ship may leave: what one at the start may leave, with nothing printed since; or the bytes that stood
-- at the start, with a front of the frames of the history that they spell.
abbrev pub LeavesShip : Sight → List ℕ → List ℕ → Type 0
LeavesShip old image text = MayLeave (now old) image text ⊎ ((image ≡ old.bytes) × ShipsFront old.bytes old.printed text)

-- the ends that come without a fault
abbrev pub ShipsUnfailed : ShipEnd → Type 0
ShipsUnfailed Done = Unit {0}
ShipsUnfailed PrintFault = ⊥
ShipsUnfailed DiskFault = ⊥
ShipsUnfailed (Damaged place why) = Unit {0}
ShipsUnfailed OutOfMemory = Unit {0}

-- What a run of `ship` does: it recovers the history that the device spells, and prints its frames. After Done all frames of
-- the one history were printed, and at every moment a front of them.
pub record ShipRun (tells : Bool) (old new : Sight) (answer : ShipEnd) : Type 0 where
  -- a fault comes only where its count rose
  pub disk_fault : answer ≡ DiskFault → Rose old.disk_faults new.disk_faults
  pub print_fault : answer ≡ PrintFault → Rose old.print_faults new.print_faults
  pub goes : Goes old new
  -- nothing is written, and one sync makes firm what was loose; so unless the disk failed, no stop may then leave another
  -- image than the bytes that stood at the start
  pub bytes : IsTrue tells → new.bytes ≡ old.bytes
  pub firm : IsTrue tells → answer ≢ DiskFault → IsFirm new
  pub images : IsTrue tells → answer ≢ DiskFault → EachIs old.bytes new
  pub syncs : new.syncs ≤ old.syncs + 1
  -- the site tells a byte and a mark for each place, so that each image is as long as the device
  pub whole : IsTrue tells → TellsAll new
  -- what was printed; and where the device spells a history, what was printed of its frames
  pub prints : IsTrue tells → ShipPrints answer old new
  pub spelled : IsTrue tells → (history : List EntryRecord) → SpellsLegal old.bytes history → ShipsHistory answer history old new
  -- a device is called damaged exactly where it is, at the first place and for the first reason, unless the disk failed or
  -- memory was wanted
  pub damaged : IsTrue tells → (place : ℕ) (why : Damage) → answer ≡ Damaged place why → DamagedAt old.bytes place why
  pub only : IsTrue tells → (place : ℕ) (why : Damage) → DamagedAt old.bytes place why →
      (answer ≡ Damaged place why) ⊎ ((answer ≡ DiskFault) ⊎ (answer ≡ OutOfMemory))
  -- at every moment since the start
  pub stops : IsTrue tells → LeavesOnly (LeavesShip old) old new
  -- where no count rose, it ends with Done, Damaged or want of memory, and not with Damaged where the journal is sound
  pub unfailed : (Rose old.disk_faults new.disk_faults → ⊥) → (Rose old.print_faults new.print_faults → ⊥) → ShipsUnfailed answer
  pub complete : IsTrue tells → (history : List EntryRecord) → SpellsLegal old.bytes history →
      (Rose old.disk_faults new.disk_faults → ⊥) → (Rose old.print_faults new.print_faults → ⊥) → (answer ≡ Done) ⊎ (answer ≡ OutOfMemory)
