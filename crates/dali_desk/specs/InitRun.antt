use Rattle.std.specs.Prelude.{◌≡◌, ◌+◌, ◌≤◌, Bool, IsTrue, []}
use Rattle.dali_outside.specs.Outside.{Sight, Rose, Goes, TellsAll, overlay}
use Rattle.dali_outside.specs.Stops.{LeavesOnly}
use Rattle.dali_journal.specs.Holds.{empty_start}
use Rattle.dali_journal.specs.Appends.{IsFirm, AtRest, EachHolds, Torn, StaysOutside}
use Rattle.dali_desk.specs.declared.status.Status.{Status}
use Rattle.dali_desk.specs.declared.status.Status.TheVariants.{Done, Invalid, Usage, ReadFault, PrintFault, DiskFault, Damaged, OtherDay, LongLine, LongFile, JournalFull, OutOfMemory, NoGate, BadFrame}

-- the statuses of `init`
abbrev pub EndsInit : Status → Type 0
EndsInit Done = Unit {0}
EndsInit (Invalid why) = ⊥
EndsInit Usage = ⊥
EndsInit ReadFault = ⊥
EndsInit PrintFault = ⊥
EndsInit DiskFault = Unit {0}
EndsInit (Damaged place why) = ⊥
EndsInit (OtherDay k) = ⊥
EndsInit (LongLine k) = ⊥
EndsInit LongFile = ⊥
EndsInit (JournalFull need left_over) = ⊥
EndsInit OutOfMemory = ⊥
EndsInit (NoGate place) = ⊥
EndsInit (BadFrame place) = ⊥

-- What a run of `init` does. After Done nothing is loose and the device holds an empty journal of edition 1, and so does
-- every image that a stop may then leave. Any status but Done is DiskFault, which comes only where the count of disk faults
-- rose. Where nothing was loose before, a stop within the run leaves any bytes in the first 17 places and the old ones behind
-- them; and at every end the bytes behind those stand as before. A site that tells, tells all at the end: it has a byte and a
-- mark for each place, so that each image is as long as the device.
pub record InitRun (tells : Bool) (old new : Sight) (status : Status) : Type 0 where
  pub statuses : EndsInit status
  pub fault : status ≡ DiskFault → Rose old.disk_faults new.disk_faults
  pub done : IsTrue tells → status ≡ Done → AtRest 16 1 [] new
  pub bytes : IsTrue tells → status ≡ Done → new.bytes ≡ overlay old.bytes 0 empty_start
  pub images : IsTrue tells → status ≡ Done → EachHolds 1 [] new
  pub stops : IsTrue tells → IsFirm old → LeavesOnly (Torn old 0 17) old new
  pub outside : IsTrue tells → StaysOutside 0 17 old new
  pub whole : IsTrue tells → TellsAll new
  pub silent : IsTrue tells → new.printed ≡ old.printed
  pub goes : Goes old new
  pub syncs : new.syncs ≤ old.syncs + 1
