use Rattle.std.proofs.Common.{◌≡◌, ◌∙◌, ℕ, false, List, length, map, get_or, ap, sym, subst}
use Rattle.dali_problem.specs.Feasible.{value_of}
use Rattle.dali_tree.specs.Fits.{Fits}
use Rattle.dali_tree.specs.declared.choice.Part.{Part}
use Rattle.dali_check.specs.Allowed.{Allowed}
use Rattle.dali_check.specs.Parts.{bound_of}
use Rattle.dali_restrict.specs.Below.{places_below}
use Rattle.dali_parts.specs.Finest.{AreFinest}
use Rattle.dali_parts.proofs.Joined.{joined_set, joined_fits, joined_allowed, joined_best, joined_members}
use Rattle.dali_parts.proofs.solving.joined.Goals as goal

pub returns-clause-fits : goal.returns-clause-fits
returns-clause-fits c =
    subst (λ (xs : List ℕ). Fits (length c.args.problem.now.items) (length c.args.problem.now.lines) (record { places = xs; parts = c.from_vec.result })) (sym (c.in_ok-places.ensures ∙ ap (places_below (λ j. get_or c.search_all.new.chosen j false)) (c.search_all.ensures.size ∙ c.requires.size)))
    (subst (λ (ps : List Part). Fits (length c.args.problem.now.items) (length c.args.problem.now.lines) (record { places = joined_set c.args.problem.now c.args.budget c.args.lists.now c.in_ok-parts.parts.items c.search_all.new.chosen c.items-items.ensures.bounds c.requires.finest c.in_ok-parts.ensures.searched; parts = ps })) (sym c.from_vec.ensures)
    (joined_fits c.args.problem.now c.args.budget c.args.lists.now c.in_ok-parts.parts.items c.search_all.new.chosen c.items-items.ensures.bounds c.requires.finest c.in_ok-parts.ensures.searched))

pub returns-clause-allowed : goal.returns-clause-allowed
returns-clause-allowed c =
    subst (λ (xs : List ℕ). Allowed c.args.problem.now c.args.budget (record { places = xs; parts = c.from_vec.result })) (sym (c.in_ok-places.ensures ∙ ap (places_below (λ j. get_or c.search_all.new.chosen j false)) (c.search_all.ensures.size ∙ c.requires.size)))
    (subst (λ (ps : List Part). Allowed c.args.problem.now c.args.budget (record { places = joined_set c.args.problem.now c.args.budget c.args.lists.now c.in_ok-parts.parts.items c.search_all.new.chosen c.items-items.ensures.bounds c.requires.finest c.in_ok-parts.ensures.searched; parts = ps })) (sym c.from_vec.ensures)
    (joined_allowed c.args.problem.now c.args.budget c.args.lists.now c.in_ok-parts.parts.items c.search_all.new.chosen c.items-items.ensures.bounds c.requires.finest c.in_ok-parts.ensures.searched))

pub returns-clause-finest : goal.returns-clause-finest
returns-clause-finest c = subst (λ (ps : List Part). AreFinest c.args.problem.now (map (λ (part : Part). part.members) ps)) (sym c.from_vec.ensures) (joined_members c.args.problem.now c.args.budget c.args.lists.now c.in_ok-parts.parts.items c.search_all.new.chosen c.items-items.ensures.bounds c.requires.finest c.in_ok-parts.ensures.searched)

pub returns-clause-best : goal.returns-clause-best
returns-clause-best c enough =
    ap (value_of c.args.problem.now) (c.in_ok-places.ensures ∙ ap (places_below (λ j. get_or c.search_all.new.chosen j false)) (c.search_all.ensures.size ∙ c.requires.size)) ∙ joined_best c.args.problem.now c.args.budget c.args.lists.now c.in_ok-parts.parts.items c.search_all.new.chosen c.items-items.ensures.bounds c.requires.finest c.in_ok-parts.ensures.searched enough ∙ sym (ap (λ (ps : List Part). bound_of ps) c.from_vec.ensures)
