use Rattle.std.specs.Prelude.{◌≡◌, ◌+◌, ◌≤◌, false, length}
use Rattle.dali_replica.specs.Limits.{most_stream}
use Rattle.dali_replica.specs.Reading.{Reader}
use Rattle.dali_replica.specs.declared.frames.Frames.TheInside.{Inside}

abbrev pub reader_of : Inside → Reader
reader_of a = record { place = a.place; pending = a.intake.pending; taken = a.intake.taken; over = a.over }

-- what was taken before the bytes pending are the frames given
pub record IsCounted (a : Inside) : Type 0 where
  pub place : a.over ≡ false → a.place + length a.intake.pending ≡ a.intake.taken
  pub within : a.place ≤ most_stream
