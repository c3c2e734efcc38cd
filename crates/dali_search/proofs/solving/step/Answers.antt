use Rattle.std.proofs.Common.{◌≡◌, ◌≢◌, ℕ, max, List, sym, subst, arith}
use Rattle.dali_problem.specs.declared.mark.Mark.{Mark}
use Rattle.dali_problem.specs.declared.mark.Mark.TheVariants.{Stranger}
use Rattle.dali_problem.specs.Clearing.{Clearing}
use Rattle.dali_problem.specs.Partial.{mark}
use Rattle.dali_search.specs.declared.best.Best.{Best}
use Rattle.dali_search.specs.declared.node.Node.{Node}
use Rattle.dali_search.specs.declared.node.Total.{Total}
use Rattle.dali_search.specs.Nodes.{node_at, total_at, AreTotals}
use Rattle.dali_search.specs.Searched.{IsSearched}
use Rattle.dali_search.specs.Sides.{IsOpenEnd, IsSplitAt, lam_of}
use Rattle.dali_search.specs.Start.{start_of}
use Rattle.dali_search.proofs.Growing.{Landed, landed_reached, reached_open, reached_some, can_add, searched_added}
use Rattle.dali_search.proofs.Starting.{start_member}
use Rattle.dali_search.proofs.solving.step.Goals as goal

-- what the walk down ensures, of the arena's own lists
land : (p : Clearing) (ns nodes : List Node) (ts totals : List Total) (start f : List Mark) (k : ℕ) → ns ≡ nodes → ts ≡ totals → start ≡ start_of p →
    Landed p ns ts start f k → Landed p nodes totals (start_of p) f k
land p ns nodes ts totals start f k same_nodes same_totals at landed =
    subst (λ (g : List Mark). Landed p nodes totals g f k) at
    (subst (λ (x : List Total). Landed p nodes x start f k) same_totals
    (subst (λ (x : List Node). Landed p x ts start f k) same_nodes landed))

pub descend-at-requires-clause-members : goal.descend-at-requires-clause-members
descend-at-requires-clause-members c j below =
    subst (λ (f : List Mark). mark f j ≢ Stranger) (sym c.requires.start) (start_member c.args.problem.now j below)

pub branch_at-requires-clause-some : goal.branch_at-requires-clause-some
branch_at-requires-clause-some c =
    let p = c.args.problem.now in
    let nodes : List Node = c.args.arena.now.nodes.items in
    let totals : List Total = c.args.arena.now.totals.items in
    let f : List Mark = c.descend-at.new.partial.marks in
    let k = c.descend-at.result in
    let landed = land p c.as_slice-nodes.result.now nodes c.as_slice-totals.result.now totals c.args.desk.now.partial.marks f k
    c.as_slice-nodes.ensures.value c.as_slice-totals.ensures.value c.requires.start
    (record { within = c.descend-at.ensures.within; is_open = c.descend-at.ensures.open; greatest = c.descend-at.ensures.greatest; leads = c.descend-at.ensures.leads }) in
    reached_some p c.args.best.now.value f (node_at nodes k).end (total_at totals k).greatest
    (landed_reached p c.args.best.now.value nodes totals f k c.requires.searched landed)
    (omega (arith, c.requires.above, landed.greatest))

pub branch_at-requires-clause-open : goal.branch_at-requires-clause-open
branch_at-requires-clause-open c =
    let p = c.args.problem.now in
    let nodes : List Node = c.args.arena.now.nodes.items in
    let totals : List Total = c.args.arena.now.totals.items in
    let f : List Mark = c.descend-at.new.partial.marks in
    let k = c.descend-at.result in
    let landed = land p c.as_slice-nodes.result.now nodes c.as_slice-totals.result.now totals c.args.desk.now.partial.marks f k
    c.as_slice-nodes.ensures.value c.as_slice-totals.ensures.value c.requires.start
    (record { within = c.descend-at.ensures.within; is_open = c.descend-at.ensures.open; greatest = c.descend-at.ensures.greatest; leads = c.descend-at.ensures.leads }) in
    subst (λ (x : List Node). IsOpenEnd p (node_at x k).end) (sym c.as_slice-nodes.ensures.value)
    (reached_open p c.args.best.now.value f (node_at nodes k).end (total_at totals k).greatest
    (landed_reached p c.args.best.now.value nodes totals f k c.requires.searched landed))

pub add-requires-clause-split : goal.add-requires-clause-split
add-requires-clause-split c =
    let p = c.args.problem.now in
    let nodes : List Node = c.args.arena.now.nodes.items in
    let totals : List Total = c.args.arena.now.totals.items in
    let f : List Mark = c.descend-at.new.partial.marks in
    let k = c.descend-at.result in
    let landed = land p c.as_slice-nodes.result.now nodes c.as_slice-totals.result.now totals c.args.desk.now.partial.marks f k
    c.as_slice-nodes.ensures.value c.as_slice-totals.ensures.value c.requires.start
    (record { within = c.descend-at.ensures.within; is_open = c.descend-at.ensures.open; greatest = c.descend-at.ensures.greatest; leads = c.descend-at.ensures.leads }) in
    let split = subst (λ (x : List Node). IsSplitAt p c.branch_at.new.best.value k f (lam_of (node_at x k).end) c.in_ok-split.split) c.as_slice-nodes.ensures.value c.in_ok-split.ensures.split in
    can_add p c.args.best.now.value c.branch_at.new.best.value k f totals (node_at nodes k).end c.in_ok-split.split
    (landed_reached p c.args.best.now.value nodes totals f k c.requires.searched landed) split

pub returns-clause-searched : goal.returns-clause-searched
returns-clause-searched c =
    let p = c.args.problem.now in
    let v = c.args.best.now.value in
    let nodes : List Node = c.args.arena.now.nodes.items in
    let totals : List Total = c.args.arena.now.totals.items in
    let f : List Mark = c.descend-at.new.partial.marks in
    let k = c.descend-at.result in
    let best : Best = c.branch_at.new.best in
    let landed = land p c.as_slice-nodes.result.now nodes c.as_slice-totals.result.now totals c.args.desk.now.partial.marks f k
    c.as_slice-nodes.ensures.value c.as_slice-totals.ensures.value c.requires.start
    (record { within = c.descend-at.ensures.within; is_open = c.descend-at.ensures.open; greatest = c.descend-at.ensures.greatest; leads = c.descend-at.ensures.leads }) in
    let has = c.requires.searched.has in
    let split = subst (λ (x : List Node). IsSplitAt p best.value k f (lam_of (node_at x k).end) c.in_ok-split.split) c.as_slice-nodes.ensures.value c.in_ok-split.ensures.split in
    let exact = subst (λ (x : List Node). AreTotals x c.add.new.self.totals.items) c.in_ok-add.ensures.nodes c.in_ok-add.ensures.totals in
    subst (λ (x : List Node). IsSearched p best.value x c.add.new.self.totals.items) (sym c.in_ok-add.ensures.nodes)
    (searched_added p v best nodes totals c.add.new.self.totals.items k f c.in_ok-split.split c.items-items.ensures.bounds c.requires.searched c.requires.above
    c.in_ok-split.ensures.best c.in_ok-split.ensures.not_worse landed.within landed.greatest
    (landed.leads (max v (total_at totals 0).greatest) v has.enter has.arena has.root)
    (landed_reached p v nodes totals f k c.requires.searched landed) split exact c.in_ok-add.ensures.lower c.in_ok-add.ensures.more)
