use Rattle.std.specs.Prelude.{ℕ, ◌+◌, Bool, not, List, [], ◌∷◌, ◌++◌, map, Option, Some, None, is_some, nat_eq, if◌then◌else◌}
use Rattle.std.specs.List.{list_any, filter}
use Rattle.std.specs.Option.{option_map}
use Rattle.dali_base.specs.NameList.{place_of}
use Rattle.dali_base.specs.Readers.{same_bytes}
use Rattle.dali_queue.specs.declared.cutoffs.Cutoffs.{Cutoffs}
use Rattle.dali_queue.specs.declared.instruction.Instruction.{Instruction}

-- a queued instruction, and the name of its group
pub record Queued : Type 0 where
  pub item : Instruction
  pub group : List ℕ

-- the instructions in order of entry, the ids ever accepted, and the cut-offs
pub record QueueRecord : Type 0 where
  pub waiting : List Queued
  pub used : List (List ℕ)
  pub cutoffs : Cutoffs

-- a queue, and for how many more instructions there is room
pub record QueueState : Type 0 where
  pub queue : QueueRecord
  pub spare : ℕ

abbrev pub id_of : Queued → List ℕ
id_of w = w.item.id

-- whether an instruction with this id was ever accepted
abbrev pub is_used : QueueRecord → List ℕ → Bool
is_used q id = list_any (same_bytes id) q.used

-- the queued instruction with this id
abbrev pub find : List Queued → List ℕ → Option Queued
find [] id = None
find (w ∷ ws) id = if same_bytes id w.item.id then Some w else find ws id

abbrev pub is_queued : List Queued → List ℕ → Bool
is_queued ws id = is_some (find ws id)

abbrev pub item_of : List Queued → List ℕ → Option Instruction
item_of ws id = option_map (λ w. w.item) (find ws id)

-- the place of the instruction with this id, counted from 0
abbrev pub place_in : List Queued → List ℕ → Option ℕ
place_in ws id = place_of (map id_of ws) id

-- a new instruction goes last, in a group by itself that has its id as its name, and its id is used from then on
abbrev pub entered : QueueRecord → Instruction → QueueRecord
entered q i = record q { waiting = q.waiting ++ record { item = i; group = i.id } ∷ []; used = q.used ++ i.id ∷ [] }

-- the queue without the instruction that has this id
abbrev pub without : List Queued → List ℕ → List Queued
without ws id = filter (λ w. not (same_bytes id w.item.id)) ws

-- the items whose places, counted from k, aren't among these
abbrev pub others : {X : Type 0} → List ℕ → ℕ → List X → List X
others places k [] = []
others places k (x ∷ xs) = if list_any (nat_eq k) places then others places (k + 1) xs else x ∷ others places (k + 1) xs

-- the queue without the instructions at these places
abbrev pub removed : List Queued → List ℕ → List Queued
removed ws places = others places 0 ws

abbrev pub with_rank : Queued → ℕ → Queued
with_rank w rank = record w { item = record w.item { rank = rank } }

-- the queue with this rank for the instruction that has the id
abbrev pub ranked : List Queued → List ℕ → ℕ → List Queued
ranked ws id rank = map (λ (w : Queued). if same_bytes id w.item.id then with_rank w rank else w) ws
