use Rattle.std.proofs.Common.{sym, ◌∙◌, subst}
use Rattle.dali_tree.specs.declared.tree.Tree.{Tree}
use Rattle.dali_search.specs.Stands.{IsTreeOf}
use Rattle.dali_search.proofs.Descending.{node_is}
use Rattle.dali_search.proofs.Standing.{open_tree, pruned_tree, branched_tree}
use Rattle.dali_search.proofs.build.+tree_of.Goals as goal

pub returns-in_ok-lam-in-Open : goal.returns-in_ok-lam-in-Open
returns-in_ok-lam-in-Open t c =
    open_tree c.args.nodes.now c.args.at c.index-nodes-at.result c.in_ok-fixes.fixes c.in-Open.lam c.in_ok-lam-in-Open.lam c.in-Open.bound
    c.requires.at (sym (node_is c.args.nodes.now c.args.at c.index-nodes-at.result c.requires.at c.index-nodes-at.is)) c.in-Open.is c.in_ok-fixes.ensures c.in_ok-lam-in-Open.ensures

pub returns-in-Pruned : goal.returns-in-Pruned
returns-in-Pruned t c =
    pruned_tree c.args.nodes.now c.args.at c.index-nodes-at.result c.in_ok-fixes.fixes c.in-Pruned.line c.requires.at
    (sym (node_is c.args.nodes.now c.args.at c.index-nodes-at.result c.requires.at c.index-nodes-at.is)) c.in-Pruned.is c.in_ok-fixes.ensures

pub returns-in_ok-new-in-Branched-2 : goal.returns-in_ok-new-in-Branched-2
returns-in_ok-new-in-Branched-2 t c =
    branched_tree c.args.nodes.now c.args.at c.index-nodes-at.result _ c.in-Branched.place c.in-Branched.lam _
    c.in-Branched.inside c.in-Branched.outside c.in_ok-new-in-Branched.field-0 c.in_ok-new-in-Branched-2.field-0 c.requires.at
    (sym (node_is c.args.nodes.now c.args.at c.index-nodes-at.result c.requires.at c.index-nodes-at.is)) c.in-Branched.is
    (c.fixes-in-Branched.view_is ∙ c.in_ok-fixes.ensures) (c.lam.view_is ∙ c.in_ok-lam-in-Branched.ensures)
    (subst (λ (tree : Tree). IsTreeOf c.args.nodes.now c.in-Branched.inside tree) (sym c.in_ok-new-in-Branched.ensures) c.in_ok-inside-in-Branched.ensures)
    (subst (λ (tree : Tree). IsTreeOf c.args.nodes.now c.in-Branched.outside tree) (sym c.in_ok-new-in-Branched-2.ensures) c.in_ok-outside-in-Branched.ensures)
