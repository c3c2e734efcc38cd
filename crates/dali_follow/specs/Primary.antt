use Rattle.std.specs.Prelude.{◌≡◌, ℕ, ◌+◌, ◌<◌, ◌≤◌, ◌^◌, ◌-◌, List, ◌++◌, length}
use Rattle.std.specs.List.{All}
use Rattle.dali_entry.specs.EntryRecord.{EntryRecord}
use Rattle.dali_journal.specs.Frames.{frames_length}
use Rattle.dali_machine.specs.History.{IsLegal}
use Rattle.dali_outside.specs.Outside.{Feed, Sight, Rose}
use Rattle.dali_record.specs.IsRecord.{IsRecord}
use Rattle.dali_record.specs.RecordText.{record_text}
use Rattle.dali_recover.specs.Spells.{records_of, SpellsLegal}
use Rattle.dali_replica.specs.Limits.{most_record, most_stream}
use Rattle.dali_replica.specs.Shipping.{IsShipped, shipped}
use Rattle.dali_replica.specs.Stream.{ShippedRecord, HasFrames}
use Rattle.dali_upkeep.specs.Editions.{SpellsIn}
use Rattle.dali_upkeep.specs.RaiseRun.{EachAtStart}
use Rattle.dali_follow.specs.Held.{held_text}
use Rattle.dali_follow.specs.declared.end.FollowEnd.{FollowEnd}
use Rattle.dali_follow.specs.declared.end.FollowEnd.TheVariants.{Done}

-- an image spells a legal history that is a prefix of the primary's
pub record SpellsPrefix (primary : List EntryRecord) (image : List ℕ) : Type 0 where
  pub history : List EntryRecord
  pub legal : SpellsLegal image history
  pub rest : List EntryRecord
  pub parts : primary ≡ history ++ rest

-- the premise of following a primary: its history is legal, the stream was shipped from it, and every image at the start
-- spells a prefix of it
pub record ComesFrom (primary : List EntryRecord) (stream : List ℕ) (before : Sight) : Type 0 where
  pub legal : IsLegal primary
  pub shipped : IsShipped primary stream
  pub starts : EachAtStart before (SpellsPrefix primary)

-- the follower's edition is at least that of each shipped record
pub record CanHold (stream : List ℕ) (before : Sight) : Type 0 where
  pub each : (edition : ℕ) (history : List EntryRecord) → SpellsIn edition history before.bytes → (frames : List ShippedRecord) → HasFrames stream frames →
      All (λ (f : ShippedRecord). (e : EntryRecord) → IsRecord f.bytes e → e.edition ≤ edition) frames

-- nothing stands in the way of following a primary to its end: the stream has all its frames in order, within the limits;
-- each record fits on the device; and no count rose
pub record IsClear (primary : List EntryRecord) (old new : Feed) (before after : Sight) : Type 0 where
  pub whole : old.left ≡ shipped primary
  pub short : All (λ (e : EntryRecord). length (record_text e) ≤ most_record) primary
  pub few : length primary < 2 ^ 64 - 1
  pub small : length old.left ≤ most_stream
  pub fits : 16 + frames_length (records_of primary) < before.size
  pub no_read : Rose old.faults new.faults → ⊥
  pub no_print : Rose before.print_faults after.print_faults → ⊥
  pub no_disk : Rose before.disk_faults after.disk_faults → ⊥

-- the run is done, and the device spells the primary's whole history, whose length was printed; or memory was wanted
pub record HoldsPrimary (primary : List EntryRecord) (before after : Sight) (end : FollowEnd) : Type 0 where
  pub done : end ≡ Done
  pub spells : SpellsLegal after.bytes primary
  pub text : after.printed ≡ before.printed ++ held_text (length primary)
