use Rattle.std.proofs.Common.{◌∙◌, ◌++◌, [], ◌∷◌, List, ℕ, ap, sym}
use Rattle.dali_queue.specs.declared.instruction.Instruction.{Instruction}
use Rattle.dali_waiting.specs.Rows.{items_of, is_party}
use Rattle.dali_waiting.proofs.StepLemmas.{filter_yes, filter_no}
use Rattle.dali_waiting.proofs.rows.held.Goals.{then-is_party+in_ok-push, else-is_party}
use Rattle.dali_waiting.proofs.rows.held.Goals as goal

pub loop-place-preserved : goal.loop-place-preserved
loop-place-preserved c =
    let items = items_of c.args.queue.now.queue in
    let item = c.item_at-item.result.now in
    elim c.if-is_party.branch [
      | then-is_party+in_ok-push w ↦
          w.ids-is ∙ w.in_ok-push.ensures.ok ∙ ap (λ (ids : List (List ℕ)). ids ++ item.id ∷ []) c.loop-place.invariant
          ∙ sym (filter_yes (is_party c.args.account) (λ (i : Instruction). i.id) items c.loop-place.place item c.item_at-item.ensures (sym c.is_party.ensures ∙ w.if-is_party.true))
      | else-is_party w ↦
          w.ids-is ∙ c.loop-place.invariant
          ∙ sym (filter_no (is_party c.args.account) (λ (i : Instruction). i.id) items c.loop-place.place item c.item_at-item.ensures (sym c.is_party.ensures ∙ w.if-is_party.false))
    ]
