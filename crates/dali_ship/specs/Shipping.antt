use Rattle.std.specs.Prelude.{ℕ, List, take}
use Rattle.dali_entry.specs.EntryRecord.{EntryRecord}
use Rattle.dali_replica.specs.Shipping.{frames_of}
use Rattle.dali_replica.specs.Stream.{HasFrames}

-- the whole frames of a stream are the first k of a history's
pub record HasFirstFrames (stream : List ℕ) (history : List EntryRecord) : Type 0 where
  pub k : ℕ
  pub frames : HasFrames stream (take k (frames_of history))
