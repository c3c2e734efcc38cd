use Rattle.std.proofs.Common.{◌≡◌, ◌+◌, ◌-◌, ◌/◌, ◌<◌, ◌++◌, [], ◌∷◌, List, ℕ, ap, sym, ◌∙◌, subst, length, arith}
use Rattle.std.proofs.lemmas.List.{append-nil, append_assoc}
use Rattle.dali_problem.specs.Feasible.{ArePlaces}
use Rattle.dali_plain.specs.Masks.{places_from}
use Rattle.dali_plain.proofs.MaskLaws.{take_place, pass_place, no_place, mask_places}
use Rattle.dali_plain.proofs.masks.places_of_mask.Goals.{then-left-eq1+in_ok-push, else-left-eq1}
use Rattle.dali_plain.proofs.masks.places_of_mask.Goals as goal

pub loop-place-preserved : goal.loop-place-preserved
loop-place-preserved c =
    let n : ℕ = length c.args.problem.now.items in
    let place : ℕ = c.loop-place.place in
    let within : place < n = omega (arith, c.loop-place-test.true, c.items-place-end.ensures.count) in
    elim c.if-left-eq1.branch [
      | then-left-eq1+in_ok-push w ↦
          let rest : List ℕ = places_from (n - (place + 1)) (place + 1) (c.loop-place.left / 2) in
          let put : c.if-left-eq1.places ≡ c.loop-place.places ++ place ∷ [] = w.places-is ∙ w.in_ok-push.ensures.ok in
          record {
            whole = ap (λ (ps : List ℕ). ps ++ rest) put
                ∙ append_assoc c.loop-place.places (place ∷ []) rest
                ∙ ap (λ (ps : List ℕ). c.loop-place.places ++ ps) (sym (take_place n place c.loop-place.left within w.if-left-eq1.true)) ∙ c.loop-place.invariant.whole;
          }
      | else-left-eq1 w ↦
          record {
            whole = ap (λ (ps : List ℕ). ps ++ places_from (n - (place + 1)) (place + 1) (c.loop-place.left / 2)) w.places-is
                ∙ ap (λ (ps : List ℕ). c.loop-place.places ++ ps) (sym (pass_place n place c.loop-place.left within w.if-left-eq1.false)) ∙ c.loop-place.invariant.whole;
          }
    ]

pub returns-clause-places : goal.returns-clause-places
returns-clause-places c =
    let n : ℕ = length c.args.problem.now.items in
    sym (ap (λ (ps : List ℕ). c.loop-place.places ++ ps) (no_place n c.loop-place.place c.loop-place.left (omega (arith, c.loop-place-test.false, c.items-place-end.ensures.count)))
    ∙ append-nil c.loop-place.places) ∙ c.loop-place.invariant.whole

pub returns-clause-set : goal.returns-clause-set
returns-clause-set c =
    subst (ArePlaces c.args.problem.now) (sym (returns-clause-places c)) (mask_places c.args.problem.now c.args.mask)
