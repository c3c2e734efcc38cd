use Rattle.std.specs.Prelude.{min}
use Rattle.indexmap.specs.IndexSet.{spare}
use Rattle.dali_queue.specs.Queue.{QueueRecord, QueueState}
use Rattle.dali_queue.specs.Limits.{IsQueue}
use Rattle.dali_queue.specs.declared.queue.Queue.TheInside.{Inside}

abbrev pub queue_of : Inside → QueueRecord
queue_of a = record { waiting = a.entries.waiting; used = a.used.keys; cutoffs = a.cutoffs }

abbrev pub state_of : Inside → QueueState
state_of a = record { queue = queue_of a; spare = min a.entries.spare (spare a.used) }

abbrev pub IsKept : Inside → Type 0
IsKept a = IsQueue (queue_of a)
