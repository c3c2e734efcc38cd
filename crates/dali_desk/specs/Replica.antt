use Rattle.std.specs.Prelude.{◌≡◌, Bool, IsTrue}
use Rattle.dali_outside.specs.Outside.{Feed, Sight}
use Rattle.dali_follow.specs.FollowRun.{FollowRun}
use Rattle.dali_follow.specs.Promises.{FollowPromises}
use Rattle.dali_follow.specs.declared.end.FollowEnd.{FollowEnd}
use Rattle.dali_follow.specs.declared.end.FollowEnd.TheVariants as follows
use Rattle.dali_ship.specs.ShipRun.{ShipRun}
use Rattle.dali_ship.specs.declared.ship.ShipEnd.{ShipEnd}
use Rattle.dali_ship.specs.declared.ship.ShipEnd.TheVariants as ships
use Rattle.dali_desk.specs.declared.status.Status.{Status}
use Rattle.dali_desk.specs.declared.status.Status.TheVariants.{Done, ReadFault, PrintFault, DiskFault, Damaged, OtherDay, LongFile, JournalFull, OutOfMemory, BadFrame}

-- the statuses of how a ship and a run of a follower ended
abbrev pub status_of_ship : ShipEnd → Status
status_of_ship ships.Done = Done
status_of_ship ships.PrintFault = PrintFault
status_of_ship ships.DiskFault = DiskFault
status_of_ship (ships.Damaged place why) = Damaged place why
status_of_ship ships.OutOfMemory = OutOfMemory

abbrev pub status_of_follow : FollowEnd → Status
status_of_follow follows.Done = Done
status_of_follow follows.ReadFault = ReadFault
status_of_follow follows.PrintFault = PrintFault
status_of_follow follows.DiskFault = DiskFault
status_of_follow (follows.Damaged place why) = Damaged place why
status_of_follow (follows.OtherDay k) = OtherDay k
status_of_follow (follows.BadFrame place) = BadFrame place
status_of_follow follows.LongFile = LongFile
status_of_follow (follows.JournalFull need left) = JournalFull need left
status_of_follow follows.OutOfMemory = OutOfMemory

-- what a run of `ship` does: its status is that of the ship's end
pub record ShipOver (told : Bool) (old new : Sight) (status : Status) : Type 0 where
  pub end : ShipEnd
  pub status_is : status ≡ status_of_ship end
  pub run : ShipRun told old new end

-- What a run of `follow` does: its status is that of how the stream was taken, with all that is promised of one.
pub record FollowOver (source_tells site_tells : Bool) (old new : Feed) (before after : Sight) (status : Status) : Type 0 where
  pub end : FollowEnd
  pub status_is : status ≡ status_of_follow end
  pub run : FollowRun source_tells site_tells old new before after end
  pub promises : IsTrue source_tells → IsTrue site_tells → FollowPromises old new before after end
