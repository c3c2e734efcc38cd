use Rattle.std.proofs.Common.{◌≡◌, ℕ, max, List, [], ◌∷◌, length, ap, sym, ◌∙◌, subst}
use Rattle.dali_problem.specs.declared.mark.Mark.{Mark}
use Rattle.dali_tree.specs.declared.choice.Part.{Part}
use Rattle.dali_tree.specs.Fits.{Fits}
use Rattle.dali_check.specs.Allowed.{Allowed}
use Rattle.dali_search.specs.declared.node.Node.{Node}
use Rattle.dali_search.specs.Start.{start_of}
use Rattle.dali_search.specs.Nodes.{total_at}
use Rattle.dali_search.specs.Stands.{Stands, IsTreeOf}
use Rattle.dali_search.proofs.Concluding.{Ends, whole_part, whole_fits, whole_allowed}
use Rattle.dali_search.proofs.solving.conclude.Goals as goal

pub returns-clause-fits : goal.returns-clause-fits
returns-clause-fits c =
    let p = c.args.problem.now in
    let v = c.args.best.value in
    let bound = c.tree_bound-bound.result in
    let totals = c.args.arena.now.totals.items in
    let has = c.requires.searched.has in
    let tree = subst (λ (ns : List Node). IsTreeOf ns 0 c.in_ok-tree.tree) c.as_slice.ensures.value c.in_ok-tree.ensures in
    let stands = subst (λ (f : List Mark). Stands p (max v (total_at totals 0).greatest) v f (total_at totals 0) c.in_ok-tree.tree) has.root
    (tree.stands p (max v (total_at totals 0).greatest) v has.enter totals c.items-items.ensures.bounds has.arena c.requires.searched.exact) in
    let ends : Ends p c.args.budget v bound (total_at totals 0) c.args.best.places c.in_ok-tree.tree = record {
      some = c.requires.some;
      grown = c.requires.best.grown;
      value = c.requires.best.value;
      bound_is = c.tree_bound-bound.ensures;
      small = c.requires.searched.small;
      stands = subst (λ (b : ℕ). Stands p b v (start_of p) (total_at totals 0) c.in_ok-tree.tree) (sym c.tree_bound-bound.ensures) stands;
      within = c.requires.within;
      ended = c.requires.ended;
    } in
    let parts : c.in_ok-parts.parts ≡ whole_part p bound c.in_ok-tree.tree ∷ [] =
    c.in_ok-parts.ensures
    ∙ ap (λ (xs : List ℕ). record { members = xs; bound = bound; tree = c.in_ok-tree.tree } ∷ []) c.requires.members in
    subst (λ (ps : List Part). Fits (length p.items) (length p.lines) (record { places = c.args.best.places; parts = ps })) (sym parts)
    (whole_fits p c.args.budget v bound (total_at totals 0) c.args.best.places c.in_ok-tree.tree c.items-items.ensures.bounds ends)

pub returns-clause-allowed : goal.returns-clause-allowed
returns-clause-allowed c =
    let p = c.args.problem.now in
    let v = c.args.best.value in
    let bound = c.tree_bound-bound.result in
    let totals = c.args.arena.now.totals.items in
    let has = c.requires.searched.has in
    let tree = subst (λ (ns : List Node). IsTreeOf ns 0 c.in_ok-tree.tree) c.as_slice.ensures.value c.in_ok-tree.ensures in
    let stands = subst (λ (f : List Mark). Stands p (max v (total_at totals 0).greatest) v f (total_at totals 0) c.in_ok-tree.tree) has.root
    (tree.stands p (max v (total_at totals 0).greatest) v has.enter totals c.items-items.ensures.bounds has.arena c.requires.searched.exact) in
    let ends : Ends p c.args.budget v bound (total_at totals 0) c.args.best.places c.in_ok-tree.tree = record {
      some = c.requires.some;
      grown = c.requires.best.grown;
      value = c.requires.best.value;
      bound_is = c.tree_bound-bound.ensures;
      small = c.requires.searched.small;
      stands = subst (λ (b : ℕ). Stands p b v (start_of p) (total_at totals 0) c.in_ok-tree.tree) (sym c.tree_bound-bound.ensures) stands;
      within = c.requires.within;
      ended = c.requires.ended;
    } in
    let parts : c.in_ok-parts.parts ≡ whole_part p bound c.in_ok-tree.tree ∷ [] =
    c.in_ok-parts.ensures
    ∙ ap (λ (xs : List ℕ). record { members = xs; bound = bound; tree = c.in_ok-tree.tree } ∷ []) c.requires.members in
    subst (λ (ps : List Part). Allowed p c.args.budget (record { places = c.args.best.places; parts = ps })) (sym parts)
    (whole_allowed p c.args.budget v bound (total_at totals 0) c.args.best.places c.in_ok-tree.tree c.items-items.ensures.bounds ends)
