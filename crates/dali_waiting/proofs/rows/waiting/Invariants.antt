use Rattle.std.proofs.Common.{◌≡◌, map, take}
use Rattle.dali_waiting.specs.Rows.{items_of, row_of}
use Rattle.dali_waiting.proofs.rows.waiting.Given as goal

abbrev pub invariant-loop-place : goal.invariant-loop-place
invariant-loop-place l = l.rows ≡ map row_of (take l.place (items_of l.queue.queue))
