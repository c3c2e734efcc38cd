use Rattle.std.proofs.Common.{List, get_or, set, ap, sym, ◌∙◌, subst}
use Rattle.std.proofs.lemmas.List.{get_or_default}
use Rattle.dali_problem.specs.declared.mark.Mark.{Mark}
use Rattle.dali_fixes.specs.Fixed.{after}
use Rattle.dali_search.specs.declared.node.Node.{Node}
use Rattle.dali_search.specs.Nodes.{no_node}
use Rattle.dali_search.specs.Arena.{HoldFrom}
use Rattle.dali_search.specs.Descent.{side_mark}
use Rattle.dali_search.proofs.descend.enter.Goals as goal

pub take-requires-clause-hold : goal.take-requires-clause-hold
take-requires-clause-hold c =
    let nodes : List Node = c.args.nodes.now in
    subst (λ (f : List Mark). HoldFrom c.args.problem.now f (get_or nodes c.args.at c.index-nodes-at.result).fixes) (sym c.fix.ensures.marks)
    (subst (λ (n : Node). HoldFrom c.args.problem.now (set c.args.partial.now.marks c.args.place (side_mark c.args.chosen)) n.fixes) (get_or_default nodes c.args.at no_node c.index-nodes-at.result c.requires.at) c.requires.holds)

pub returns-clause-leads : goal.returns-clause-leads
returns-clause-leads c =
    let p = c.args.problem.now in
    let nodes : List Node = c.args.nodes.now in
    ap (λ (n : Node). after p n.fixes (set c.args.partial.now.marks c.args.place (side_mark c.args.chosen))) (get_or_default nodes c.args.at no_node c.index-nodes-at.result c.requires.at)
    ∙ ap (after p (get_or nodes c.args.at c.index-nodes-at.result).fixes) (sym c.fix.ensures.marks)
    ∙ c.take.ensures.taken
