use Rattle.std.specs.Prelude.{◌≡◌, ℕ, ◌+◌, ◌||◌, false, List, [], ◌∷◌, map, nat_eq, if◌then◌else◌}
use Rattle.std.specs.List.{AllByRecursion, list_any}
use Rattle.dali_base.specs.Readers.{same_bytes}
use Rattle.indexmap.specs.IndexMap.{spare}
use Rattle.dali_queue.specs.declared.entries.Entry.{Entry}
use Rattle.dali_queue.specs.declared.entries.Entries.TheInside.{Inside}
use Rattle.dali_queue.specs.Queue.{Queued}
use Rattle.dali_queue.specs.Room.{QueueRoom}

abbrev pub queued_of : List ℕ × Entry → Queued
queued_of e = record { item = e.1.item; group = e.1.group }

abbrev pub room_of : Inside → QueueRoom
room_of a = record { waiting = map queued_of a.entries.entries; spare = spare a.entries }

-- each entry stands under its id, and none is to leave
abbrev pub IsStored : List ℕ × Entry → Type 0
IsStored e = (e.0 ≡ e.1.item.id) × (e.1.leaving ≡ false)

pub record AreStored (a : Inside) : Type 0 where
  pub each : AllByRecursion IsStored a.entries.entries

-- the entries with those at these places, counted from k, marked to leave
abbrev pub marked : List ℕ → ℕ → List (List ℕ × Entry) → List (List ℕ × Entry)
marked places k [] = []
marked places k (e ∷ es) = (e.0, record e.1 { leaving = list_any (nat_eq k) places || e.1.leaving }) ∷ marked places (k + 1) es

-- an entry that is in the group `to` where it was in the group `from`
abbrev pub regrouped_entry : List ℕ → List ℕ → List ℕ × Entry → List ℕ × Entry
regrouped_entry from to e = (e.0, if same_bytes from e.1.group then record e.1 { group = to } else e.1)
