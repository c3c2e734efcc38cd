use Rattle.std.proofs.Common.{◌<◌, ◌^◌, ◌∙◌, sym, ap, subst, refl, ℤ, pos, ◌+ℤ◌, List, length, take, get_or, arith}
use Rattle.std.proofs.lemmas.List.{length-take}
use Rattle.std.proofs.lemmas.List.Elements.{All-from_get_or}
use Rattle.dali_problem.specs.declared.row.Effect.{Effect}
use Rattle.dali_problem.specs.Sums.{sum_over}
use Rattle.dali_problem.specs.Clearing.{on_line}
use Rattle.dali_problem.specs.Limits.{Within}
use Rattle.dali_problem.proofs.Values.{places_length}
use Rattle.dali_problem.proofs.Lines.{booked_small, book_step}
use Rattle.dali_problem.proofs.feasible.book.Goals as goal

pub add-requires-clause-room : goal.add-requires-clause-room
add-requires-clause-room c =
    let short : length (take c.loop-place.place-index c.args.places.now) < 2 ^ 64 =
    omega (
      arith,
      length-take c.loop-place.place-index c.args.places.now,
      places_length c.args.problem.now c.args.places.now c.requires.places,
      c.effects.ensures.bounds.items,
    ) in
    All-from_get_or (Within (2 ^ 124)) c.loop-place.at (pos 0) (λ k below.
    subst (Within (2 ^ 124)) (sym (c.loop-place.invariant k below))
    (booked_small c.args.problem.now (take c.loop-place.place-index c.args.places.now) k c.effects.ensures.bounds short))

pub loop-place-preserved : goal.loop-place-preserved
loop-place-preserved c = λ k below.
    let old : ℤ = get_or c.loop-place.at k (pos 0) in
    let inside : k < length c.loop-place.at = omega (arith, below, c.add.auto.at) in
    book_step c.args.problem.now c.args.places.now c.loop-place.place-index (get_or c.args.places.now c.loop-place.place-index 0) 0 k
    (get_or c.add.new.at k (pos 0)) old c.loop-place-test.true refl (c.loop-place.invariant k inside)
    (c.add.ensures k below ∙ ap (λ (es : List Effect). old +ℤ sum_over (on_line k) es) c.effects.ensures.effects)
