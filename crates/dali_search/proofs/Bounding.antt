use Rattle.std.proofs.Common.{ℕ, zero, suc, ◌+◌, ◌<◌, ◌≤◌, max, List, length, set, ap, sym, subst, arith}
use Rattle.std.proofs.lemmas.Int.{ints}
use Rattle.dali_problem.specs.declared.mark.Mark.{Mark}
use Rattle.dali_problem.specs.declared.mark.Mark.TheVariants.{Chosen, Left}
use Rattle.dali_problem.specs.Clearing.{Clearing}
use Rattle.dali_problem.specs.Limits.{IsProblem}
use Rattle.dali_problem.specs.Feasible.{ArePlaces, IsFeasible, value_of}
use Rattle.dali_problem.specs.Partial.{is_undecided, Agrees}
use Rattle.dali_problem.proofs.SetLaws.{is_in, value_in}
use Rattle.dali_fixes.proofs.Sets.{AtMost, covers_of, goes_of}
use Rattle.dali_fixes.proofs.Exchange.{branch_keeps, short_keeps, fixes_keep}
use Rattle.dali_check.proofs.Weakly.{closes_keeps}
use Rattle.dali_search.specs.declared.node.Node.{Node}
use Rattle.dali_search.specs.declared.node.NodeEnd.{NodeEnd}
use Rattle.dali_search.specs.declared.node.NodeEnd.TheVariants.{Open, Pruned, Branched}
use Rattle.dali_search.specs.declared.node.Total.{Total}
use Rattle.dali_search.specs.Nodes.{node_at, total_at, total_of, LinksDown, AreTotals}
use Rattle.dali_search.specs.Arena.{EndHolds, IsArena}

at_most_more : (p : Clearing) (f : List Mark) (u w : ℕ) → u ≤ w → AtMost p f u → AtMost p f w
at_most_more p f u w more bound = record {
  most = (λ test covers goes. omega (arith, ints, more, bound.most test covers goes));
}

-- no set that goes through an end is worth more than the greatest bound behind it
end_most : (p : Clearing) (u v : ℕ) (nodes : List Node) (totals : List Total) (enter : ℕ → List Mark) (k : ℕ) (f : List Mark) (end : NodeEnd) → LinksDown nodes k end →
    ((j : ℕ) → k < j → j < length nodes → AtMost p (enter j) (total_at totals j).greatest) → EndHolds p u v enter f end →
    AtMost p f (total_of totals end).greatest
end_most p u v nodes totals enter k f (Open lam bound) down behind holds = closes_keeps p f bound lam holds.above
end_most p u v nodes totals enter k f (Pruned line) down behind holds = short_keeps p f line 0 holds.short
end_most p u v nodes totals enter k f (Branched place lam inside outside) down behind holds =
    let most : ℕ = max (total_at totals inside).greatest (total_at totals outside).greatest in
    branch_keeps p f place most (ap is_undecided holds.undecided)
    (at_most_more p (set f place Chosen) (total_at totals inside).greatest most (omega arith)
    (subst (λ (g : List Mark). AtMost p g (total_at totals inside).greatest) holds.inner (behind inside down.0 (omega (arith, down.1, down.2)))))
    (at_most_more p (set f place Left) (total_at totals outside).greatest most (omega arith)
    (subst (λ (g : List Mark). AtMost p g (total_at totals outside).greatest) holds.outer (behind outside (omega (arith, down.0, down.1)) down.2)))

node_most : (p : Clearing) (u v : ℕ) (nodes : List Node) (totals : List Total) (enter : ℕ → List Mark) → IsProblem p → IsArena p u v nodes enter → AreTotals nodes totals →
    (fuel k : ℕ) → k < length nodes → length nodes ≤ fuel + k → AtMost p (enter k) (total_at totals k).greatest
node_most p u v nodes totals enter limits arena exact zero k below fuel = absurd (omega (arith, below, fuel))
node_most p u v nodes totals enter limits arena exact (suc n) k below fuel =
    let at = arena.each k below in
    let behind : (j : ℕ) → k < j → j < length nodes → AtMost p (enter j) (total_at totals j).greatest =
    λ j later within. node_most p u v nodes totals enter limits arena exact n j within (omega (arith, later, fuel)) in
    let here = end_most p u v nodes totals enter k at.leads (node_at nodes k).end (arena.linked.down k below) behind at.ends in
    fixes_keep p (node_at nodes k).fixes (enter k) at.leads (total_at totals k).greatest limits (arena.size k below) at.fixed
    (subst (λ (t : Total). AtMost p at.leads t.greatest) (sym (exact.each k below)) here)

-- no feasible set that agrees at the root is worth more than the greatest bound of an open node
pub arena_most : (p : Clearing) (u v : ℕ) (nodes : List Node) (totals : List Total) (enter : ℕ → List Mark) (t : List ℕ) → IsProblem p →
    IsArena p u v nodes enter → AreTotals nodes totals → ArePlaces p t → IsFeasible p t → Agrees (enter 0) t → value_of p t ≤ (total_at totals 0).greatest
arena_most p u v nodes totals enter t limits arena exact places feasible agrees =
    let most = (node_most p u v nodes totals enter limits arena exact (length nodes) 0 arena.linked.some (omega arith)).most
    (λ j. is_in j t) (covers_of p t limits places feasible) (goes_of (enter 0) t agrees) in
    let value = value_in p t places in
    omega (arith, ints, most, value)
