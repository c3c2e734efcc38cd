use Rattle.std.proofs.Common.{◌≡◌, map, take}
use Rattle.std.specs.List.{filter}
use Rattle.dali_queue.specs.declared.instruction.Instruction.{Instruction}
use Rattle.dali_waiting.specs.Rows.{items_of, is_party}
use Rattle.dali_waiting.proofs.rows.held.Given as goal

abbrev pub invariant-loop-place : goal.invariant-loop-place
invariant-loop-place l = l.ids ≡ map (λ (i : Instruction). i.id) (filter (is_party l.account) (take l.place (items_of l.queue.queue)))
