use Rattle.std.proofs.Common.{◌≡◌, ℕ, ◌∷◌, ◌++◌, [], List, ap, sym, ◌∙◌, add-one, arith}
use Rattle.dali_search.specs.Start.{all_places}
use Rattle.dali_search.proofs.Starting.{places_more}
use Rattle.dali_search.proofs.places.all_places.Goals as goal

pub loop-place-preserved : goal.loop-place-preserved
loop-place-preserved c = record {
  so_far = c.in_ok-push.ensures.ok
      ∙ ap (λ (xs : List ℕ). xs ++ c.loop-place.place ∷ []) c.loop-place.invariant.so_far
      ∙ sym (places_more c.loop-place.place)
      ∙ ap all_places (sym (add-one c.loop-place.place));
}

pub returns : goal.returns
returns c =
    let end : c.loop-place.place ≡ c.items-place-end.result = omega (arith, c.loop-place-test.false, c.loop-place.auto.place-end) in
    c.loop-place.invariant.so_far ∙ ap all_places (end ∙ c.items-place-end.ensures.count)
