use Rattle.std.specs.Prelude.{◌≡◌, ◌⊎◌, ℕ, true, List, ◌++◌, length}
use Rattle.dali_entry.specs.EntryRecord.{EntryRecord}
use Rattle.dali_journal.specs.Appends.{IsFirm}
use Rattle.dali_outside.specs.Outside.{Feed, Sight}
use Rattle.dali_replica.specs.Stream.{ShippedRecord}
use Rattle.dali_upkeep.specs.Editions.{SpellsIn}
use Rattle.dali_follow.specs.FollowRun.{TakesStream, Because}
use Rattle.dali_follow.specs.Held.{held_text}
use Rattle.dali_follow.specs.Takes.{Takes, AreWhole}
use Rattle.dali_follow.specs.declared.end.FollowEnd.{FollowEnd}
use Rattle.dali_follow.specs.declared.end.FollowEnd.TheVariants.{Done, PrintFault, DiskFault, Damaged, OutOfMemory}

-- the device spells the history that it spelled at the start, after some first frames of the stream; which ones, by the end
-- that came, and why it came, are said beside it
pub record LeavesTaken (old new : Feed) (before after : Sight) (end : FollowEnd) : Type 0 where
  pub edition : ℕ
  pub found : List EntryRecord
  pub spelled : SpellsIn edition found before.bytes
  pub frames : List ShippedRecord
  pub history : List EntryRecord
  pub takes : Takes edition found frames history
  pub spells : SpellsIn edition history after.bytes
  pub firm : IsFirm after
  pub input : TakesStream old new frames end
  pub because : Because true old before.size history frames edition end
  pub silent : after.printed ≡ before.printed

-- A run that is done: the device spells the found history after all whole frames of the stream, with nothing loose, and its
-- length was printed.
pub record HoldsAll (stream : List ℕ) (before after : Sight) : Type 0 where
  pub edition : ℕ
  pub found : List EntryRecord
  pub spelled : SpellsIn edition found before.bytes
  pub frames : List ShippedRecord
  pub whole : AreWhole stream frames
  pub history : List EntryRecord
  pub takes : Takes edition found frames history
  pub spells : SpellsIn edition history after.bytes
  pub firm : IsFirm after
  pub text : after.printed ≡ before.printed ++ held_text (length history)

-- nothing was written or printed: the opening wanted memory
pub record LeavesAll (before after : Sight) : Type 0 where
  pub unwritten : after.bytes ≡ before.bytes
  pub silent : after.printed ≡ before.printed

-- what each ending leaves; after a disk fault or a print fault that is what every stop leaves
abbrev pub Leaves : Feed → Feed → Sight → Sight → FollowEnd → Type 0
Leaves old new before after Done = HoldsAll old.left before after
Leaves old new before after PrintFault = Unit {0}
Leaves old new before after DiskFault = Unit {0}
Leaves old new before after (Damaged place why) = ⊥
Leaves old new before after OutOfMemory = LeavesAll before after ⊎ LeavesTaken old new before after OutOfMemory
Leaves old new before after end = LeavesTaken old new before after end
