use Rattle.std.proofs.Common.{◌≢◌, ℕ, ◌<◌, ◌∙◌, ◌++◌, ◌∷◌, [], List, get_or, map, length, refl, ap, sym, subst, arith}
use Rattle.std.specs.List.{All}
use Rattle.std.proofs.lemmas.List.{take_all}
use Rattle.dali_problem.specs.declared.row.Effect.{Effect}
use Rattle.dali_problem.specs.Clearing.{Item, Clearing, item_at}
use Rattle.dali_problem.specs.Limits.{AreEffects}
use Rattle.dali_problem.proofs.Lines.{item_limits}
use Rattle.dali_restrict.specs.Restriction.{wide_effect, IsAdding, CoverEffects}
use Rattle.dali_restrict.proofs.Restricting.{member_effects, adding_few, adding_new, adding_total, inner_effects, changed_range, item_more}
use Rattle.dali_restrict.proofs.restriction.add_items.Goals as goal

pub effects_on-requires : goal.effects_on-requires
effects_on-requires c = subst (CoverEffects c.args.lines.now) (sym c.effects.ensures.effects)
    (member_effects c.args.problem.now c.args.members.now c.args.lines.now c.loop-place.place-index c.items-items.ensures.bounds c.requires.places c.requires.changed c.requires.few c.loop-place-test.true)

pub add_item-requires-clause-few : goal.add_item-requires-clause-few
add_item-requires-clause-few c = adding_few c.args.problem.now c.args.inner.now.lines c.args.lines.now c.args.members.now c.loop-place.place-index c.loop-place.inner c.items-items.ensures.bounds c.requires.places
    c.loop-place-test.true c.loop-place.invariant.adding

pub add_item-requires-clause-new_id : goal.add_item-requires-clause-new_id
add_item-requires-clause-new_id c = subst (λ (id : List ℕ). All (λ (item : Item). item.id ≢ id) c.loop-place.inner.items) (sym c.id.ensures.id)
    (adding_new c.args.problem.now c.args.inner.now.lines c.args.lines.now c.args.members.now c.loop-place.place-index c.loop-place.inner c.items-items.ensures.bounds c.requires.places
    c.loop-place-test.true c.loop-place.invariant.adding)

pub add_item-requires-clause-total : goal.add_item-requires-clause-total
add_item-requires-clause-total c =
    omega (
      arith,
      c.value.ensures.value,
      adding_total c.args.problem.now c.args.inner.now.lines c.args.lines.now c.args.members.now c.loop-place.place-index c.loop-place.inner c.items-items.ensures.bounds c.requires.places
          c.loop-place-test.true c.loop-place.invariant.adding,
    )

pub add_item-requires-clause-effects : goal.add_item-requires-clause-effects
add_item-requires-clause-effects c =
    let p : Clearing = c.args.problem.now in
    let j : ℕ = get_or c.args.members.now c.loop-place.place-index 0 in
    let limits = c.items-items.ensures.bounds in
    let within : j < length p.items = c.requires.places.in_range c.loop-place.place-index 0 c.loop-place-test.true in
    let range = changed_range p c.args.members.now c.args.lines.now limits c.requires.places.in_range c.requires.changed in
    subst (AreEffects (length c.loop-place.inner.lines)) (sym c.as_slice.ensures.value)
    (inner_effects (length p.lines) (length c.loop-place.inner.lines) c.args.lines.now c.in_ok-effects.effects.items (item_at p j).effects (item_limits p j limits within).effects
    (record { rising = c.requires.changed.rising; in_range = range })
    (c.in_ok-effects.ensures.same ∙ c.effects.ensures.effects)
    (ap length c.loop-place.invariant.adding.lines ∙ c.requires.same) c.in_ok-effects.ensures.within)

pub loop-place-preserved : goal.loop-place-preserved
loop-place-preserved c = record {
  adding = item_more c.args.problem.now c.args.inner.now.lines c.args.lines.now c.args.members.now c.loop-place.place-index c.loop-place.inner c.add_item.new.self
      (record { id = c.id.result; value = c.value.result; effects = c.in_ok-effects.effects.items }) (get_or c.args.members.now c.loop-place.place-index 0) c.loop-place-test.true refl
      c.loop-place.invariant.adding
      (c.in_ok-add_item.ensures.added ∙ ap (λ (es : List Effect). record c.loop-place.inner { items = c.loop-place.inner.items ++ record { id = c.id.result; value = c.value.result; effects = es } ∷ [] }) c.as_slice.ensures.value)
      (ap (λ (id : List ℕ). record { id = id; value = c.value.result; effects = map (wide_effect c.args.lines.now) c.in_ok-effects.effects.items }) c.id.ensures.id
      ∙ ap (λ (v : ℕ). record { id = (item_at c.args.problem.now (get_or c.args.members.now c.loop-place.place-index 0)).id; value = v; effects = map (wide_effect c.args.lines.now) c.in_ok-effects.effects.items }) c.value.ensures.value
      ∙ ap (λ (es : List Effect). record (item_at c.args.problem.now (get_or c.args.members.now c.loop-place.place-index 0)) { effects = es }) (c.in_ok-effects.ensures.same ∙ c.effects.ensures.effects))
      c.in_ok-effects.ensures.within;
}

pub returns : goal.returns
returns c = subst (λ (js : List ℕ). IsAdding c.args.problem.now c.args.inner.now.lines c.args.lines.now js c.loop-place.inner) (take_all c.loop-place.place-index c.args.members.now c.loop-place-test.false) c.loop-place.invariant.adding
