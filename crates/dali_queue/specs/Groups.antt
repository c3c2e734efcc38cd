use Rattle.std.specs.Prelude.{◌≡◌, ℕ, ◌+◌, ◌||◌, ◌&&◌, Bool, not, true, false, List, map, Option, nat_le, if◌then◌else◌}
use Rattle.std.specs.List.{list_all, count_by}
use Rattle.std.specs.Option.{option_map, option_map_or}
use Rattle.dali_base.specs.Readers.{same_bytes}
use Rattle.dali_queue.specs.Cutoffs.{cutoff_of}
use Rattle.dali_queue.specs.Queue.{Queued, QueueRecord, find}

-- whether the instruction is in the group of this name
abbrev pub in_group : List ℕ → Queued → Bool
in_group group w = same_bytes group w.group

-- the group of the queued instruction with this id
abbrev pub group_of : List Queued → List ℕ → Option (List ℕ)
group_of ws id = option_map (λ w. w.group) (find ws id)

-- whether both are queued and in one group
abbrev pub same_group : List Queued → List ℕ → List ℕ → Bool
same_group ws first second = option_map_or (λ g. option_map_or (same_bytes g) (group_of ws second) false) (group_of ws first) false

-- the number of instructions in the group of the queued instruction with this id, 0 where it isn't queued
abbrev pub group_size : List Queued → List ℕ → ℕ
group_size ws id = option_map_or (λ g. count_by (in_group g) ws) (group_of ws id) 0

abbrev pub with_group : Queued → List ℕ → Queued
with_group w group = record w { group = group }

-- the queue with all of one group in another
abbrev pub regrouped : List Queued → List ℕ → List ℕ → List Queued
regrouped ws from to = map (λ (w : Queued). if in_group from w then with_group w to else w) ws

-- the queue with the two groups of these instructions made one, under the name of the first one's
abbrev pub linked : List Queued → List ℕ → List ℕ → List Queued
linked ws first second = option_map_or (λ to. option_map_or (λ from. regrouped ws from to) (group_of ws second) ws) (group_of ws first) ws

-- whether a group is eligible at a moment: the cut-off of each of its instructions' kinds is at least the moment
abbrev pub is_eligible : QueueRecord → ℕ → List ℕ → Bool
is_eligible q moment group = list_all (λ w. not (in_group group w) || nat_le moment (cutoff_of q.cutoffs w.item.kind)) q.waiting

-- an instruction is in a group by itself: its group has one, no other is in one group with it, and the others are in one
-- group as before
pub record EntersAlone (old new : List Queued) (id : List ℕ) : Type 0 where
  pub size : group_size new id ≡ 1
  pub alone : (other : List ℕ) → same_bytes other id ≡ false → same_group new id other ≡ false
  pub others : (one other : List ℕ) → same_bytes one id ≡ false → same_bytes other id ≡ false → same_group new one other ≡ same_group old one other

-- whether the instruction is in the group of one or of the other of these two
abbrev pub in_either : List Queued → List ℕ → List ℕ → List ℕ → Bool
in_either ws first second id = same_group ws first id || same_group ws second id

-- two groups are made one: its size is the sum of theirs, and two instructions are in one group exactly where they were, or
-- where each was in one of the two
pub record MakesOne (old new : List Queued) (first second : List ℕ) : Type 0 where
  pub size : group_size new first ≡ group_size old first + group_size old second
  pub together : same_group new first second ≡ true
  pub pairs : (one other : List ℕ) → same_group new one other
      ≡ (same_group old one other || (in_either old first second one && in_either old first second other))
