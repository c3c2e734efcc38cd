use Rattle.std.proofs.Common.{◌≡◌, Some, List, get_or, refl, ap, ◌∙◌}
use Rattle.std.proofs.lemmas.List.{get_or_default}
use Rattle.dali_tree.specs.declared.fix.Fix.{Fix}
use Rattle.dali_fixes.specs.Fixed.{after}
use Rattle.dali_search.specs.declared.node.Node.{Node}
use Rattle.dali_search.specs.declared.node.NodeEnd.TheVariants.{Branched}
use Rattle.dali_search.specs.Nodes.{node_at, no_node}
use Rattle.dali_search.proofs.Descending.{down_of, turned_leads, turned_members}
use Rattle.dali_search.proofs.Members.{member_after}
use Rattle.dali_search.proofs.descend.descend.Goals as goal

pub walk-init : goal.walk-init
walk-init c =
    let p = c.args.problem.now in
    let nodes : List Node = c.args.nodes.now in
    let some = c.requires.arena.has.arena.linked.some in
    let same : (node_at nodes 0).fixes ≡ (get_or nodes 0 c.index-nodes-0.result).fixes =
    ap (λ (n : Node). n.fixes) (get_or_default nodes 0 no_node c.index-nodes-0.result some) in
    let taken : after p (node_at nodes 0).fixes c.args.partial.now.marks ≡ Some c.take.new.partial.marks =
    ap (λ (fixes : List Fix). after p fixes c.args.partial.now.marks) same ∙ c.take.ensures.taken in
    record {
      of = c.take.ensures.of;
      members = (λ j below. member_after p (node_at nodes 0).fixes c.args.partial.now.marks c.take.new.partial.marks j taken (c.requires.members j below));
      within = some;
      greatest = refl;
      leads = (λ u v enter arena root. ap (after p (node_at nodes 0).fixes) root ∙ taken);
    }

pub turn-at-requires-clause-down : goal.turn-at-requires-clause-down
turn-at-requires-clause-down c =
    let p = c.args.problem.now in
    let nodes : List Node = c.args.nodes.now in
    let has = c.requires.arena.has in
    let is : (node_at nodes c.walk.at).end ≡ Branched c.in-Branched.place c.in-Branched.lam c.in-Branched.inside c.in-Branched.outside =
    ap (λ (n : Node). n.end) (get_or_default nodes c.walk.at no_node c.index-nodes-at.result c.walk.invariant.within) ∙ c.in-Branched.is in
    down_of p c.requires.arena.bound c.requires.arena.value nodes c.args.totals.now has.enter c.walk.partial.marks c.walk.at
    c.in-Branched.place c.in-Branched.lam c.in-Branched.inside c.in-Branched.outside has.arena c.requires.totals c.walk.invariant.within is
    (c.walk.invariant.leads c.requires.arena.bound c.requires.arena.value has.enter has.arena has.root)

pub walk-preserved : goal.walk-preserved
walk-preserved c =
    let p = c.args.problem.now in
    let nodes : List Node = c.args.nodes.now in
    let is : (node_at nodes c.walk.at).end ≡ Branched c.in-Branched.place c.in-Branched.lam c.in-Branched.inside c.in-Branched.outside =
    ap (λ (n : Node). n.end) (get_or_default nodes c.walk.at no_node c.index-nodes-at.result c.walk.invariant.within) ∙ c.in-Branched.is in
    record {
      of = c.turn-at.ensures.of;
      members = (λ j below. turned_members p c.walk.partial.marks c.turn-at.new.partial.marks nodes c.in-Branched.place c.in-Branched.inside c.in-Branched.outside c.turn-at.result
          c.turn-at.ensures.turned j (c.walk.invariant.members j below));
      within = c.turn-at.ensures.within;
      greatest = c.turn-at.ensures.greatest ∙ c.walk.invariant.greatest;
      leads = (λ u v enter arena root. turned_leads p u v nodes enter c.walk.partial.marks c.turn-at.new.partial.marks c.walk.at
          c.in-Branched.place c.in-Branched.lam c.in-Branched.inside c.in-Branched.outside c.turn-at.result
          arena c.walk.invariant.within is (c.walk.invariant.leads u v enter arena root) c.turn-at.ensures.turned);
    }
