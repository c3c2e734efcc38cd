use Rattle.std.proofs.Common.{◌∙◌, List, sym, subst}
use Rattle.dali_search.specs.declared.node.Node.{Node}
use Rattle.dali_search.specs.declared.node.Total.{Total}
use Rattle.dali_search.specs.Nodes.{AreLinked, AreTotalsBut}
use Rattle.dali_search.specs.Adding.{added}
use Rattle.dali_search.proofs.Adding.{added_linked, added_totals}
use Rattle.dali_search.proofs.arena.Arena.add.Goals as goal

pub refresh-requires-clause-linked : goal.refresh-requires-clause-linked
refresh-requires-clause-linked c =
    subst (λ (ns : List Node). AreLinked ns) (sym (c.as_slice.ensures.value ∙ c.in_ok-add_nodes.ensures))
    (added_linked c.args.self.now.nodes.items c.args.self.now.totals.items c.args.at c.args.split c.requires.linked c.requires.at c.requires.open c.requires.split)

pub refresh-requires-clause-but : goal.refresh-requires-clause-but
refresh-requires-clause-but c =
    subst (λ (ns : List Node). AreTotalsBut ns c.as_mut_slice.result.now c.args.at) (sym (c.as_slice.ensures.value ∙ c.in_ok-add_nodes.ensures))
    (subst (λ (ts : List Total). AreTotalsBut (added c.args.self.now.nodes.items c.args.at c.args.split) ts c.args.at) (sym (c.as_mut_slice.ensures.value ∙ c.in_ok-add_totals.ensures))
    (added_totals c.args.self.now.nodes.items c.args.self.now.totals.items c.args.at c.args.split c.requires.linked c.requires.totals c.requires.at c.requires.open c.requires.split))

pub returns-clause-linked : goal.returns-clause-linked
returns-clause-linked c =
    subst (λ (ns : List Node). AreLinked ns) (sym c.in_ok-add_nodes.ensures)
    (added_linked c.args.self.now.nodes.items c.args.self.now.totals.items c.args.at c.args.split c.requires.linked c.requires.at c.requires.open c.requires.split)
