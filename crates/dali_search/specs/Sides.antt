use Rattle.std.specs.Prelude.{◌≡◌, ℕ, ◌≤◌, true, Some, List, [], length, slice_set}
use Rattle.std.specs.List.{list_all}
use Rattle.dali_problem.specs.declared.mark.Mark.{Mark}
use Rattle.dali_problem.specs.declared.mark.Mark.TheVariants.{Undecided, Chosen, Left}
use Rattle.dali_problem.specs.Clearing.{Clearing}
use Rattle.dali_problem.specs.Partial.{mark}
use Rattle.dali_problem.specs.Kept.{IsOf}
use Rattle.dali_lagrange.specs.KeptSum.{IsSumOf}
use Rattle.dali_tree.specs.Fits.{fix_fits, lam_fits}
use Rattle.dali_fixes.specs.Fixed.{after}
use Rattle.dali_check.specs.Proves.{closes}
use Rattle.dali_check.specs.Lean.{is_nearest}
use Rattle.dali_search.specs.declared.node.Node.{Node}
use Rattle.dali_search.specs.declared.node.NodeEnd.{NodeEnd}
use Rattle.dali_search.specs.declared.node.NodeEnd.TheVariants.{Open, Pruned, Branched}
use Rattle.dali_search.specs.declared.desk.Desk.{Desk}
use Rattle.dali_search.specs.declared.split.Split.{Split}
use Rattle.dali_search.specs.Lead.{IsLead}
use Rattle.dali_search.specs.Start.{start_of}
use Rattle.dali_search.specs.Nodes.{leaf_bound}
use Rattle.dali_search.specs.Arena.{IsOpenAt, IsPrunedAt}

-- the desk was made for p: on it all places are members, and all are undecided where the sets are grown again
pub record IsDesk (p : Clearing) (desk : Desk) : Type 0 where
  pub of : IsOf p desk.partial
  pub whole : IsOf p desk.whole
  pub undecided : desk.whole.marks ≡ start_of p
  pub point : length desk.point ≡ length p.lines
  pub kept : IsSumOf p desk.kept

-- a node that isn't branched, at a partial choice
abbrev pub LeafHolds : Clearing → ℕ → List Mark → NodeEnd → Type 0
LeafHolds p v f (Open lam bound) = IsOpenAt p v f lam bound
LeafHolds p v f (Pruned line) = IsPrunedAt p f line
LeafHolds p v f (Branched place lam inside outside) = ⊥

-- a node that isn't branched, entered at f
pub record IsLeafAt (p : Clearing) (v : ℕ) (f : List Mark) (node : Node) : Type 0 where
  pub leads : List Mark
  pub fixed : after p node.fixes f ≡ Some leads
  pub fits : list_all (fix_fits (length p.items) (length p.lines)) node.fixes ≡ true
  pub ends : LeafHolds p v leads node.end

-- its bound isn't above that of these multipliers at f
pub record IsBelow (p : Clearing) (lam : List (ℕ × ℕ)) (f : List Mark) (bound : ℕ) : Type 0 where
  pub below : (w : ℕ) → closes p w lam f ≡ true → bound ≤ w

-- both sides of a branch of node k at f, which goes by multipliers in place of these
pub record IsSplitAt (p : Clearing) (v k : ℕ) (f : List Mark) (lam : List (ℕ × ℕ)) (split : Split) : Type 0 where
  pub lead : IsLead p f lam split.lam
  pub nearest : is_nearest p split.lam f split.place ≡ true
  pub undecided : mark f split.place ≡ Undecided
  pub inner : IsLeafAt p v (slice_set f split.place Chosen) split.inside
  pub outer : IsLeafAt p v (slice_set f split.place Left) split.outside
  pub inner_below : IsBelow p lam f (leaf_bound split.inside.end)
  pub outer_below : IsBelow p lam f (leaf_bound split.outside.end)
  pub inner_above : split.inside.above ≡ k
  pub outer_above : split.outside.above ≡ k

-- the multipliers of an open node
abbrev pub lam_of : NodeEnd → List (ℕ × ℕ)
lam_of (Open lam bound) = lam
lam_of (Pruned line) = []
lam_of (Branched place lam inside outside) = []

-- an open node whose multipliers fit
abbrev pub IsOpenEnd : Clearing → NodeEnd → Type 0
IsOpenEnd p (Open lam bound) = lam_fits (length p.lines) lam ≡ true
IsOpenEnd p (Pruned line) = ⊥
IsOpenEnd p (Branched place lam inside outside) = ⊥
