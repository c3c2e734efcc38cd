use Rattle.std.specs.Prelude.{◌≡◌, ℕ, ◌<◌, ◌≤◌, true, Some, List, length, slice_set}
use Rattle.std.specs.List.{list_all}
use Rattle.dali_base.specs.Limits.{most_bound}
use Rattle.dali_problem.specs.declared.mark.Mark.{Mark}
use Rattle.dali_problem.specs.declared.mark.Mark.TheVariants.{Undecided, Chosen, Left}
use Rattle.dali_problem.specs.Clearing.{Clearing}
use Rattle.dali_problem.specs.Partial.{mark}
use Rattle.dali_problem.specs.Rules.{is_short}
use Rattle.dali_tree.specs.declared.fix.Fix.{Fix}
use Rattle.dali_tree.specs.Fits.{fix_fits, lam_fits}
use Rattle.dali_fixes.specs.Fixed.{after}
use Rattle.dali_check.specs.Proves.{closes}
use Rattle.dali_check.specs.Lean.{reaches, is_worked, is_open, is_led}
use Rattle.dali_search.specs.declared.node.Node.{Node}
use Rattle.dali_search.specs.declared.node.NodeEnd.{NodeEnd}
use Rattle.dali_search.specs.declared.node.NodeEnd.TheVariants.{Open, Pruned, Branched}
use Rattle.dali_search.specs.Nodes.{node_at, AreLinked}

-- an open node at a partial choice, where the best set is worth v: its bound is that of its multipliers, they are settled,
-- no fix rule is left, and where the bound is above v some member is undecided
pub record IsOpenAt (p : Clearing) (v : ℕ) (f : List Mark) (lam : List (ℕ × ℕ)) (bound : ℕ) : Type 0 where
  pub listed : lam_fits (length p.lines) lam ≡ true
  pub small : bound ≤ most_bound
  pub above : closes p bound lam f ≡ true
  pub least : 0 < bound → reaches p bound lam f ≡ true
  pub worked : is_worked p lam f ≡ true
  pub unfinished : v < bound → is_open p f ≡ true

-- a node that is pruned at a partial choice: its line is short
pub record IsPrunedAt (p : Clearing) (f : List Mark) (line : ℕ) : Type 0 where
  pub within : line < length p.lines
  pub short : is_short p f line ≡ true

-- a branched node at a partial choice, where u is the bound of the tree: its sides are entered with the place decided
pub record IsBranchedAt (p : Clearing) (u : ℕ) (enter : ℕ → List Mark) (f : List Mark) (place : ℕ) (lam : List (ℕ × ℕ)) (inside outside : ℕ) : Type 0 where
  pub listed : lam_fits (length p.lines) lam ≡ true
  pub led : is_led p u lam f place ≡ true
  pub undecided : mark f place ≡ Undecided
  pub inner : enter inside ≡ slice_set f place Chosen
  pub outer : enter outside ≡ slice_set f place Left

abbrev pub EndHolds : Clearing → ℕ → ℕ → (ℕ → List Mark) → List Mark → NodeEnd → Type 0
EndHolds p u v enter f (Open lam bound) = IsOpenAt p v f lam bound
EndHolds p u v enter f (Pruned line) = IsPrunedAt p f line
EndHolds p u v enter f (Branched place lam inside outside) = IsBranchedAt p u enter f place lam inside outside

-- a node that is entered at a partial choice: its fixes hold in order, and its end holds where they lead
pub record IsNodeAt (p : Clearing) (u v : ℕ) (enter : ℕ → List Mark) (f : List Mark) (node : Node) : Type 0 where
  pub leads : List Mark
  pub fixed : after p node.fixes f ≡ Some leads
  pub fits : list_all (fix_fits (length p.items) (length p.lines)) node.fixes ≡ true
  pub ends : EndHolds p u v enter leads node.end

-- the nodes of a search, each with the partial choice at which it is entered. u is the bound of the tree, v what the best
-- set is worth
pub record IsArena (p : Clearing) (u v : ℕ) (nodes : List Node) (enter : ℕ → List Mark) : Type 0 where
  pub linked : AreLinked nodes
  pub size : (k : ℕ) → k < length nodes → length (enter k) ≡ length p.items
  pub each : (k : ℕ) → k < length nodes → IsNodeAt p u v enter (enter k) (node_at nodes k)

-- the same of some partial choices, where the root is entered at f
pub record HasArena (p : Clearing) (u v : ℕ) (f : List Mark) (nodes : List Node) : Type 0 where
  pub enter : ℕ → List Mark
  pub root : enter 0 ≡ f
  pub arena : IsArena p u v nodes enter

-- the nodes of a search, whatever its bound is and its best set is worth
pub record SomeArena (p : Clearing) (f : List Mark) (nodes : List Node) : Type 0 where
  pub bound : ℕ
  pub value : ℕ
  pub has : HasArena p bound value f nodes

-- the fixes hold one after the other
pub record HoldFrom (p : Clearing) (f : List Mark) (fixes : List Fix) : Type 0 where
  pub leads : List Mark
  pub fixed : after p fixes f ≡ Some leads
