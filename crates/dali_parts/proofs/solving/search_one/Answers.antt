use Rattle.std.proofs.Common.{◌≡◌, ◌∙◌, ◌<◌, ℕ, List, length, get_or, ap, sym, subst, arith}
use Rattle.std.specs.List.{All}
use Rattle.dali_tree.specs.declared.choice.Part.{Part}
use Rattle.dali_restrict.specs.Restriction.{IsRestriction}
use Rattle.dali_parts.specs.Joined.{IsSearched, AreChosen}
use Rattle.dali_parts.proofs.Steps.{one_size, one_range, places_range, one_within, one_others, one_searched}
use Rattle.dali_parts.proofs.solving.search_one.Goals as goal

pub bounds-parts-0 : goal.bounds-parts-0
bounds-parts-0 c = omega (arith, ap length c.as_slice-parts.ensures, one_size c.args.problem.now c.in_ok-inner.inner.problem c.args.members.now c.in_ok-inner.inner.lines c.in_ok-found.found c.items-items.ensures.bounds c.requires.members c.in_ok-inner.ensures.restriction c.in_ok-found.ensures.fits c.in_ok-found.ensures.whole)

pub widen-requires-clause-restriction : goal.widen-requires-clause-restriction
widen-requires-clause-restriction c = subst (λ (xs : List ℕ). IsRestriction c.args.problem.now xs c.in_ok-inner.inner.problem c.in_ok-inner.inner.lines) (sym c.in_ok-inner.ensures.members) c.in_ok-inner.ensures.restriction

pub widen-requires-clause-in_range : goal.widen-requires-clause-in_range
widen-requires-clause-in_range c = one_range c.args.problem.now c.in_ok-inner.inner.problem c.args.members.now c.in_ok-inner.inner.lines c.in_ok-found.found c.items-items.ensures.bounds c.requires.members c.in_ok-inner.ensures.restriction c.in_ok-found.ensures.fits c.in_ok-found.ensures.whole c.index-parts-0.result (c.index-parts-0.is ∙ ap (λ (ps : List Part). get_or ps 0 c.index-parts-0.result) c.as_slice-parts.ensures)

pub choose-requires-clause-numbers : goal.choose-requires-clause-numbers
choose-requires-clause-numbers c k d below =
    omega (arith, ap length c.as_slice.ensures, subst (λ (xs : List ℕ). All (λ (i : ℕ). i < length c.args.members.now) xs) (sym c.as_slice-places.ensures) (places_range c.args.problem.now c.in_ok-inner.inner.problem c.args.members.now c.in_ok-inner.inner.lines c.in_ok-found.found c.items-items.ensures.bounds c.requires.members c.in_ok-inner.ensures.restriction c.in_ok-found.ensures.fits c.in_ok-found.ensures.whole) k d below)

pub returns-clause-searched : goal.returns-clause-searched
returns-clause-searched c = one_searched c.args.problem.now c.in_ok-inner.inner.problem c.args.members.now c.in_ok-inner.inner.lines c.in_ok-found.found c.items-items.ensures.bounds c.requires.members c.in_ok-inner.ensures.restriction c.in_ok-found.ensures.fits c.in_ok-found.ensures.whole c.args.budget c.in_ok-inner.inner.places c.index-parts-0.result c.in_ok-part.part c.args.chosen.now c.choose.new.chosen
    c.in_ok-inner.ensures.bounds c.in_ok-found.ensures.allowed c.in_ok-inner.ensures.members (c.index-parts-0.is ∙ ap (λ (ps : List Part). get_or ps 0 c.index-parts-0.result) c.as_slice-parts.ensures) c.in_ok-part.ensures.part
    (subst (λ (xs : List ℕ). AreChosen xs c.in_ok-found.found.places c.args.chosen.now c.choose.new.chosen) c.as_slice.ensures
    (subst (λ (xs : List ℕ). AreChosen c.as_slice.result.now xs c.args.chosen.now c.choose.new.chosen) c.as_slice-places.ensures c.choose.ensures.chosen))
    c.requires.free

pub returns-clause-others : goal.returns-clause-others
returns-clause-others c j out = one_others c.args.problem.now c.in_ok-inner.inner.problem c.args.members.now c.in_ok-inner.inner.lines c.in_ok-found.found c.items-items.ensures.bounds c.requires.members c.in_ok-inner.ensures.restriction c.in_ok-found.ensures.fits c.in_ok-found.ensures.whole c.args.chosen.now c.choose.new.chosen
    (subst (λ (xs : List ℕ). AreChosen xs c.in_ok-found.found.places c.args.chosen.now c.choose.new.chosen) c.as_slice.ensures
    (subst (λ (xs : List ℕ). AreChosen c.as_slice.result.now xs c.args.chosen.now c.choose.new.chosen) c.as_slice-places.ensures c.choose.ensures.chosen)) j out

pub returns-clause-within : goal.returns-clause-within
returns-clause-within c = one_within c.args.problem.now c.in_ok-inner.inner.problem c.args.members.now c.in_ok-inner.inner.lines c.in_ok-found.found c.items-items.ensures.bounds c.requires.members c.in_ok-inner.ensures.restriction c.in_ok-found.ensures.fits c.in_ok-found.ensures.whole c.args.budget c.index-parts-0.result c.in_ok-part.part c.in_ok-found.ensures.allowed (c.index-parts-0.is ∙ ap (λ (ps : List Part). get_or ps 0 c.index-parts-0.result) c.as_slice-parts.ensures) c.in_ok-part.ensures.branches
