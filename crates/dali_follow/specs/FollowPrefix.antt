use Rattle.std.specs.Prelude.{◌≡◌, ◌⊎◌, ℕ, List, length}
use Rattle.dali_entry.specs.EntryRecord.{EntryRecord}
use Rattle.dali_outside.specs.Outside.{Sight, now}
use Rattle.dali_outside.specs.Stops.{MayLeave, LeavesOnly}
use Rattle.dali_put.specs.PutRun.{PrintsSome}
use Rattle.dali_replica.specs.Stream.{ShippedRecord}
use Rattle.dali_upkeep.specs.Editions.{SpellsIn}
use Rattle.dali_follow.specs.Held.{held_text}
use Rattle.dali_follow.specs.Takes.{Takes, AreFirst, AreWhole}

-- all whole frames of the stream were taken, and some first bytes of the HELD line were printed
pub record ShowsAll (stream : List ℕ) (frames : List ShippedRecord) (count : ℕ) (before text : List ℕ) : Type 0 where
  pub whole : AreWhole stream frames
  pub shown : PrintsSome (held_text count) before text

-- The law of a stop: the image spells, in its edition, what a legal history that some image at the start spells becomes by the
-- first whole frames of the stream; nothing was printed, or all of them were taken and the HELD line was begun.
pub record KeepsTaken (stream : List ℕ) (before : Sight) (image text : List ℕ) : Type 0 where
  pub start : List ℕ
  pub start_text : List ℕ
  pub left : MayLeave (now before) start start_text
  pub edition : ℕ
  pub found : List EntryRecord
  pub spelled : SpellsIn edition found start
  pub frames : List ShippedRecord
  pub first : AreFirst stream frames
  pub history : List EntryRecord
  pub takes : Takes edition found frames history
  pub spells : SpellsIn edition history image
  pub text_is : (text ≡ before.printed) ⊎ ShowsAll stream frames (length history) before.printed text

-- at every moment since the start
abbrev pub FollowPrefix : List ℕ → Sight → Sight → Type 0
FollowPrefix stream before after = LeavesOnly (KeepsTaken stream before) before after
