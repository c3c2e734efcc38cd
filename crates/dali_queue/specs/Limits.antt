use Rattle.std.specs.Prelude.{ℕ, ◌≤◌, List, length, map, IsTrue}
use Rattle.std.specs.List.{All, IsDistinct, count_by}
use Rattle.dali_base.specs.Readers.{same_bytes}
use Rattle.dali_queue.specs.Instruction.{IsInstruction}
use Rattle.dali_queue.specs.Queue.{QueueRecord, id_of, is_used}
use Rattle.dali_queue.specs.Groups.{in_group}

-- The limits of a queue. Each stands here as a number and nowhere else; in code it is the constant of the same name in
-- `src/limits.rt`, which is proved equal to it.

-- queued instructions
abbrev pub most_queued : ℕ
most_queued = 1024

-- instructions of a group
abbrev pub most_linked : ℕ
most_linked = 8

-- what keeps within them
pub record IsQueue (q : QueueRecord) : Type 0 where
  pub few : length q.waiting ≤ most_queued
  pub distinct : IsDistinct same_bytes (map id_of q.waiting)
  pub items : All (λ w. IsInstruction w.item) q.waiting
  pub ids_used : All (λ w. IsTrue (is_used q w.item.id)) q.waiting
  pub groups_used : All (λ w. IsTrue (is_used q w.group)) q.waiting
  pub linked : (group : List ℕ) → count_by (in_group group) q.waiting ≤ most_linked
