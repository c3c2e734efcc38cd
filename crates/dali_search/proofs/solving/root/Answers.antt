use Rattle.std.proofs.Common.{List, [], ◌∷◌, sym, subst}
use Rattle.dali_problem.specs.declared.mark.Mark.{Mark}
use Rattle.dali_search.specs.declared.node.Node.{Node}
use Rattle.dali_search.specs.declared.node.Total.{Total}
use Rattle.dali_search.specs.Searched.{IsSearched}
use Rattle.dali_search.specs.Sides.{IsLeafAt}
use Rattle.dali_search.proofs.Growing.{searched_root}
use Rattle.dali_search.proofs.solving.root.Goals as goal

pub returns-clause-searched : goal.returns-clause-searched
returns-clause-searched c =
    let p = c.args.problem.now in
    let v = c.leaf-2.new.best.value in
    let node : Node = c.in_ok-node.node in
    let leaf = subst (λ (f : List Mark). IsLeafAt p v f node) c.requires.start c.in_ok-node.ensures.leaf in
    subst (λ (ns : List Node). IsSearched p v ns c.in_ok-arena.arena.totals.items) (sym c.in_ok-arena.ensures.nodes)
    (subst (λ (ts : List Total). IsSearched p v (node ∷ []) ts) (sym c.in_ok-arena.ensures.totals) (searched_root p v node leaf))
