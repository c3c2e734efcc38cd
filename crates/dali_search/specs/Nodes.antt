use Rattle.std.specs.Prelude.{◌≡◌, ◌≢◌, ℕ, ◌+◌, ◌<◌, ◌≤◌, ◌⊎◌, List, [], length, max, slice_index_or}
use Rattle.dali_search.specs.declared.node.Node.{Node}
use Rattle.dali_search.specs.declared.node.NodeEnd.{NodeEnd}
use Rattle.dali_search.specs.declared.node.NodeEnd.TheVariants.{Open, Pruned, Branched}
use Rattle.dali_search.specs.declared.node.Total.{Total}

-- what stands past the last node
abbrev pub no_node : Node
no_node = record { above = 0; fixes = []; end = Pruned 0 }

abbrev pub no_total : Total
no_total = record { greatest = 0; branches = 0 }

-- node k and its total, counted from 0
abbrev pub node_at : List Node → ℕ → Node
node_at nodes k = slice_index_or nodes k no_node

abbrev pub total_at : List Total → ℕ → Total
total_at totals k = slice_index_or totals k no_total

-- the greatest bound of an open node, and how many nodes are branched, among a node with this end and all below it
abbrev pub total_of : List Total → NodeEnd → Total
total_of totals (Open lam bound) = record { greatest = bound; branches = 0 }
total_of totals (Pruned line) = record { greatest = 0; branches = 0 }
total_of totals (Branched place lam inside outside) = record {
  greatest = max (total_at totals inside).greatest (total_at totals outside).greatest;
  branches = (total_at totals inside).branches + (total_at totals outside).branches + 1;
}

-- a branched node k has two nodes behind it as its sides, which have it above them
abbrev pub LinksDown : List Node → ℕ → NodeEnd → Type 0
LinksDown nodes k (Open lam bound) = Unit {0}
LinksDown nodes k (Pruned line) = Unit {0}
LinksDown nodes k (Branched place lam inside outside) =
    (k < inside) × (inside < outside) × (outside < length nodes)
    × ((node_at nodes inside).above ≡ k) × ((node_at nodes outside).above ≡ k)

-- node k is a side of a node with this end
abbrev pub IsSideOf : ℕ → NodeEnd → Type 0
IsSideOf k (Open lam bound) = ⊥
IsSideOf k (Pruned line) = ⊥
IsSideOf k (Branched place lam inside outside) = (inside ≡ k) ⊎ (outside ≡ k)

-- each node but the root is a side of the one above it, and each branched node is above its sides
pub record AreLinked (nodes : List Node) : Type 0 where
  pub some : 0 < length nodes
  pub down : (k : ℕ) → k < length nodes → LinksDown nodes k (node_at nodes k).end
  pub before : (k : ℕ) → 0 < k → k < length nodes → (node_at nodes k).above < k
  pub up : (k : ℕ) → 0 < k → k < length nodes → IsSideOf k (node_at nodes (node_at nodes k).above).end

-- each total is that of its node, and none has more branches than the root's
pub record AreTotals (nodes : List Node) (totals : List Total) : Type 0 where
  pub size : length totals ≡ length nodes
  pub each : (k : ℕ) → k < length nodes → total_at totals k ≡ total_of totals (node_at nodes k).end
  pub most : (k : ℕ) → k < length nodes → (total_at totals k).branches ≤ (total_at totals 0).branches

-- the same where node k was branched since: its total counts one branch too few
pub record AreTotalsBut (nodes : List Node) (totals : List Total) (k : ℕ) : Type 0 where
  pub size : length totals ≡ length nodes
  pub each : (j : ℕ) → j < length nodes → j ≢ k → total_at totals j ≡ total_of totals (node_at nodes j).end
  pub fewer : (total_of totals (node_at nodes k).end).branches ≡ (total_at totals k).branches + 1
  pub lower : (total_of totals (node_at nodes k).end).greatest ≤ (total_at totals k).greatest
  pub most : (j : ℕ) → j < length nodes → (total_at totals j).branches ≤ (total_at totals 0).branches

-- the sides of a node with this end are among n nodes
abbrev pub SidesWithin : ℕ → NodeEnd → Type 0
SidesWithin n (Open lam bound) = Unit {0}
SidesWithin n (Pruned line) = Unit {0}
SidesWithin n (Branched place lam inside outside) = (inside < n) × (outside < n)

-- a node that may be branched, with these multipliers and this bound
abbrev pub IsOpen : NodeEnd → Type 0
IsOpen (Open lam bound) = Unit {0}
IsOpen (Pruned line) = ⊥
IsOpen (Branched place lam inside outside) = ⊥

-- a node that isn't branched
abbrev pub IsLeaf : NodeEnd → Type 0
IsLeaf (Open lam bound) = Unit {0}
IsLeaf (Pruned line) = Unit {0}
IsLeaf (Branched place lam inside outside) = ⊥

-- its bound; a node that is pruned has none
abbrev pub leaf_bound : NodeEnd → ℕ
leaf_bound (Open lam bound) = bound
leaf_bound (Pruned line) = 0
leaf_bound (Branched place lam inside outside) = 0
