use Rattle.std.specs.Prelude.{◌≡◌, ℕ, ◌+◌, ◌^◌, ◌<◌, ◌≤◌, true, List, length}
use Rattle.dali_problem.specs.declared.mark.Mark.{Mark}
use Rattle.dali_problem.specs.Clearing.{Clearing}
use Rattle.dali_problem.specs.Limits.{IsProblem}
use Rattle.dali_tree.specs.declared.tree.Tree.{Tree}
use Rattle.dali_tree.specs.Fits.{tree_fits}
use Rattle.dali_tree.specs.Tree.{branch_count, branch_depth}
use Rattle.dali_reduce.specs.Reduced.{undecided_count}
use Rattle.dali_check.specs.Proves.{proves_tree}
use Rattle.dali_check.specs.Lean.{lean_tree, tight_tree}
use Rattle.dali_search.specs.declared.node.Node.{Node}
use Rattle.dali_search.specs.declared.node.Total.{Total}
use Rattle.dali_search.specs.Nodes.{total_at, AreTotals}
use Rattle.dali_search.specs.Arena.{IsArena}

-- a tree is entered at f, where u is its bound and v what the best set is worth: it proves u, is lean, fits, and has the
-- branches of the total; where a bound is above v, a place more could be branched
pub record Stands (p : Clearing) (u v : ℕ) (f : List Mark) (total : Total) (tree : Tree) : Type 0 where
  pub proves : total.greatest ≤ u → proves_tree p u tree f ≡ true
  pub lean : lean_tree p u v tree f ≡ true
  pub tight : total.greatest ≡ u → 0 < u → tight_tree p u tree f ≡ true
  pub fits : tree_fits (length p.items) (length p.lines) tree ≡ true
  pub depth : branch_depth tree ≤ undecided_count f
  pub branches : branch_count tree ≡ total.branches
  pub few : branch_count tree + 1 ≤ 2 ^ undecided_count f
  pub fewer : v < total.greatest → branch_count tree + 1 < 2 ^ undecided_count f

-- the tree of node k
pub record IsTreeOf (nodes : List Node) (k : ℕ) (tree : Tree) : Type 0 where
  pub stands : (p : Clearing) (u v : ℕ) (enter : ℕ → List Mark) (totals : List Total) → IsProblem p → IsArena p u v nodes enter → AreTotals nodes totals →
      Stands p u v (enter k) (total_at totals k) tree
