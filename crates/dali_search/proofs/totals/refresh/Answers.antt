use Rattle.std.proofs.Common.{◌≡◌, ℕ, ◌<◌, List, length, get_or, ap, sym, subst, arith}
use Rattle.std.proofs.lemmas.List.{get_or_default}
use Rattle.dali_search.specs.declared.node.Node.{Node}
use Rattle.dali_search.specs.declared.node.Total.{Total}
use Rattle.dali_search.specs.Nodes.{node_at, no_node, AreTotals}
use Rattle.dali_search.proofs.Climbing.{Climbs, climb_step, climb_end}
use Rattle.dali_search.proofs.totals.refresh.Goals as goal

pub climb-preserved : goal.climb-preserved
climb-preserved c =
    let nodes : List Node = c.args.nodes.now in
    let start : List Total = c.args.totals.now in
    let at = c.climb.at in
    let below : at < length nodes = omega (arith, c.climb.invariant.within, c.requires.from) in
    let above : (get_or nodes at c.index-nodes-at.result).above ≡ (node_at nodes at).above =
    ap (λ (n : Node). n.above) (get_or_default nodes at c.index-nodes-at.result no_node below) in
    subst (λ (k : ℕ). Climbs nodes start c.renew.new.totals c.args.from k) (sym above)
    (subst (λ (ts : List Total). Climbs nodes start ts c.args.from (node_at nodes at).above) (sym c.renew.ensures)
    (climb_step nodes start c.climb.totals c.args.from at c.requires.linked c.requires.but c.requires.from c.climb-test.true c.climb.invariant))

pub returns-clause-totals : goal.returns-clause-totals
returns-clause-totals c =
    let nodes : List Node = c.args.nodes.now in
    let start : List Total = c.args.totals.now in
    let root : c.climb.at ≡ 0 = omega (arith, c.climb-test.false) in
    let ended = climb_end nodes start c.climb.totals c.args.from c.requires.linked
    (subst (λ (k : ℕ). Climbs nodes start c.climb.totals c.args.from k) root c.climb.invariant) in
    subst (λ (ts : List Total). AreTotals nodes ts) (sym c.renew-2.ensures) ended.exact
