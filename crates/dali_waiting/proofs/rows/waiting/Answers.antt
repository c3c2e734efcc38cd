use Rattle.std.proofs.Common.{◌∙◌, ◌++◌, [], ◌∷◌, List, map, take, ap, sym}
use Rattle.dali_waiting.specs.declared.rows.WaitRow.{WaitRow}
use Rattle.dali_waiting.specs.Rows.{items_of, row_of}
use Rattle.dali_waiting.proofs.StepLemmas.{map_next}
use Rattle.dali_waiting.proofs.rows.waiting.Goals as goal

pub loop-place-preserved : goal.loop-place-preserved
loop-place-preserved c =
    c.in_ok-push.ensures.ok ∙ ap (λ (rows : List WaitRow). rows ++ c.row.result ∷ []) c.loop-place.invariant
    ∙ ap (λ (row : WaitRow). map row_of (take c.loop-place.place (items_of c.args.queue.now.queue)) ++ row ∷ []) c.row.ensures
    ∙ sym (map_next row_of (items_of c.args.queue.now.queue) c.loop-place.place c.item_at.result.now c.item_at.ensures)
