use Rattle.std.proofs.Common.{ℕ, List, sym, subst, ◌∙◌, ◌+◌}
use Rattle.dali_guess.proofs.Rising.{RisesBelow, below_more, below_wider}
use Rattle.dali_guess.proofs.listing.places_of.Goals.{then-is_flagged+in_ok-push, else-is_flagged}
use Rattle.dali_guess.proofs.listing.places_of.Goals as goal

pub loop-place-preserved : goal.loop-place-preserved
loop-place-preserved c =
    let xs : List ℕ = c.loop-place.places in
    let i : ℕ = c.loop-place.place in
    elim c.if-is_flagged.branch [
      | then-is_flagged+in_ok-push w ↦
          record { rises = subst (RisesBelow (i + 1)) (sym (w.places-is ∙ w.in_ok-push.ensures.ok)) (below_more i xs c.loop-place.invariant.rises) }
      | else-is_flagged w ↦
          record { rises = subst (RisesBelow (i + 1)) (sym w.places-is) (below_wider i xs c.loop-place.invariant.rises) }
    ]
