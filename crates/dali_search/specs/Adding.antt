use Rattle.std.specs.Prelude.{◌≡◌, ℕ, ◌+◌, ◌≤◌, List, [], ◌∷◌, ◌++◌, length, slice_set}
use Rattle.dali_search.specs.declared.node.Node.{Node}
use Rattle.dali_search.specs.declared.node.NodeEnd.{NodeEnd}
use Rattle.dali_search.specs.declared.node.NodeEnd.TheVariants.{Branched}
use Rattle.dali_search.specs.declared.node.Total.{Total}
use Rattle.dali_search.specs.declared.split.Split.{Split}
use Rattle.dali_search.specs.Nodes.{node_at, total_at, IsLeaf, leaf_bound}

-- how node k ends with its branch, whose sides stand behind n nodes
abbrev pub end_with : ℕ → Split → NodeEnd
end_with n split = Branched split.place split.lam n (n + 1)

-- the nodes with node k branched
abbrev pub added : List Node → ℕ → Split → List Node
added nodes k split =
    slice_set nodes k (record { above = (node_at nodes k).above; fixes = (node_at nodes k).fixes; end = end_with (length nodes) split })
    ++ split.inside ∷ split.outside ∷ []

-- both sides are those of node k, and their bounds aren't above its own
pub record CanAdd (totals : List Total) (k : ℕ) (split : Split) : Type 0 where
  pub inner : IsLeaf split.inside.end
  pub outer : IsLeaf split.outside.end
  pub inner_above : split.inside.above ≡ k
  pub outer_above : split.outside.above ≡ k
  pub inner_below : leaf_bound split.inside.end ≤ (total_at totals k).greatest
  pub outer_below : leaf_bound split.outside.end ≤ (total_at totals k).greatest
