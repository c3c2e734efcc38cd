use Rattle.std.specs.Prelude.{◌≡◌, ℕ, ◌+◌, ◌*◌, ◌≤◌, max, List, length}
use Rattle.dali_base.specs.Limits.{most_bound}
use Rattle.dali_problem.specs.Clearing.{Clearing}
use Rattle.dali_search.specs.declared.node.Node.{Node}
use Rattle.dali_search.specs.declared.node.Total.{Total}
use Rattle.dali_search.specs.Start.{start_of}
use Rattle.dali_search.specs.Nodes.{total_at, AreTotals}
use Rattle.dali_search.specs.Arena.{HasArena}

-- the nodes of a search with their totals, where the best set is worth v: the bound of the tree is the greater one of v and
-- the greatest bound of an open node
pub record IsSearched (p : Clearing) (v : ℕ) (nodes : List Node) (totals : List Total) : Type 0 where
  pub has : HasArena p (max v (total_at totals 0).greatest) v (start_of p) nodes
  pub exact : AreTotals nodes totals
  pub size : length nodes ≡ 2 * (total_at totals 0).branches + 1
  pub small : (total_at totals 0).greatest ≤ most_bound
