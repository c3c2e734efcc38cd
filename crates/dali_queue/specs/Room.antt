use Rattle.std.specs.Prelude.{ℕ, List}
use Rattle.dali_queue.specs.Queue.{Queued}

-- queued instructions, and for how many more there is room
pub record QueueRoom : Type 0 where
  pub waiting : List Queued
  pub spare : ℕ
