use Rattle.std.specs.Prelude.{ℕ, ◌||◌, Bool, List, map}
use Rattle.std.specs.List.{filter}
use Rattle.dali_base.specs.Readers.{same_bytes}
use Rattle.dali_queue.specs.declared.instruction.Instruction.{Instruction}
use Rattle.dali_queue.specs.Queue.{QueueRecord}
use Rattle.dali_waiting.specs.declared.rows.WaitRow.{WaitRow}

-- the queued instructions, in queue order
abbrev pub items_of : QueueRecord → List Instruction
items_of q = map (λ w. w.item) q.waiting

-- an instruction as a row, with its value without its rank
abbrev pub row_of : Instruction → WaitRow
row_of i = record { id = i.id; kind = i.kind; value = i.value }

abbrev pub waiting_rows : QueueRecord → List WaitRow
waiting_rows q = map row_of (items_of q)

-- whether the account gives or takes
abbrev pub is_party : List ℕ → Instruction → Bool
is_party account i = same_bytes account i.giver || same_bytes account i.taker

abbrev pub held_ids : QueueRecord → List ℕ → List (List ℕ)
held_ids q account = map (λ (i : Instruction). i.id) (filter (is_party account) (items_of q))
