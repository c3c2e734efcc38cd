use Rattle.std.proofs.Common.{◌≡◌, ◌∙◌, ℕ, ◌<◌, ◌≤◌, true, ◌&&◌, List, length, arith}
use Rattle.std.proofs.lemmas.Bool.{and_parts, and_from}
use Rattle.dali_problem.specs.declared.mark.Mark.{Mark}
use Rattle.dali_problem.specs.Clearing.{Clearing}
use Rattle.dali_check.specs.Lean.{reaches, is_worked, is_nearest, is_led}
use Rattle.dali_search.specs.declared.node.Node.{Node}
use Rattle.dali_search.specs.declared.node.NodeEnd.{NodeEnd}
use Rattle.dali_search.specs.declared.node.NodeEnd.TheVariants.{Open, Pruned, Branched}
use Rattle.dali_search.specs.Nodes.{LinksDown, IsLeaf}
use Rattle.dali_search.specs.Arena.{IsOpenAt, EndHolds, IsNodeAt}
use Rattle.dali_search.specs.Sides.{LeafHolds, IsLeafAt}
use Rattle.dali_search.proofs.Falling.{reaches_less}

pub led_of : (p : Clearing) (u : ℕ) (lam : List (ℕ × ℕ)) (f : List Mark) (place : ℕ) → reaches p u lam f ≡ true → is_worked p lam f ≡ true →
    is_nearest p lam f place ≡ true → is_led p u lam f place ≡ true
unfolding is_led
led_of p u lam f place reached worked nearest =
    and_from (reaches p u lam f && is_worked p lam f) (is_nearest p lam f place) (and_from (reaches p u lam f) (is_worked p lam f) reached worked) nearest

led_less : (p : Clearing) (u w : ℕ) (lam : List (ℕ × ℕ)) (f : List Mark) (place : ℕ) → w ≤ u → is_led p u lam f place ≡ true → is_led p w lam f place ≡ true
unfolding is_led
led_less p u w lam f place less told =
    let both = and_parts (reaches p u lam f && is_worked p lam f) (is_nearest p lam f place) told in
    let first = and_parts (reaches p u lam f) (is_worked p lam f) both.0 in
    led_of p w lam f place (reaches_less p u w lam f less first.0) first.1 both.1

pub open_eased : (p : Clearing) (v w : ℕ) (f : List Mark) (lam : List (ℕ × ℕ)) (bound : ℕ) → v ≤ w → IsOpenAt p v f lam bound → IsOpenAt p w f lam bound
open_eased p v w f lam bound more holds = record {
  listed = holds.listed;
  small = holds.small;
  above = holds.above;
  least = holds.least;
  worked = holds.worked;
  unfinished = (λ over. holds.unfinished (omega (arith, over)));
}

leaf_holds_eased : (p : Clearing) (v w : ℕ) (f : List Mark) (end : NodeEnd) → v ≤ w → LeafHolds p v f end → LeafHolds p w f end
leaf_holds_eased p v w f (Open lam bound) more holds = open_eased p v w f lam bound more holds
leaf_holds_eased p v w f (Pruned line) more holds = holds
leaf_holds_eased p v w f (Branched place lam inside outside) more holds = holds

-- a leaf stays one where the best set is worth more
pub leaf_eased : (p : Clearing) (v w : ℕ) (f : List Mark) (node : Node) → v ≤ w → IsLeafAt p v f node → IsLeafAt p w f node
leaf_eased p v w f node more leaf = record {
  leads = leaf.leads;
  fixed = leaf.fixed;
  fits = leaf.fits;
  ends = leaf_holds_eased p v w leaf.leads node.end more leaf.ends;
}

-- an end holds where the tree's bound is less, the best set is worth more, and its sides are entered as before
pub end_eased : (p : Clearing) (u w v x : ℕ) (nodes : List Node) (enter entered : ℕ → List Mark) (k : ℕ) (f : List Mark) (end : NodeEnd) → w ≤ u → v ≤ x →
    LinksDown nodes k end → ((j : ℕ) → j < length nodes → entered j ≡ enter j) → EndHolds p u v enter f end → EndHolds p w x entered f end
end_eased p u w v x nodes enter entered k f (Open lam bound) less more down same holds = open_eased p v x f lam bound more holds
end_eased p u w v x nodes enter entered k f (Pruned line) less more down same holds = holds
end_eased p u w v x nodes enter entered k f (Branched place lam inside outside) less more down same holds = record {
  listed = holds.listed;
  led = led_less p u w lam f place less holds.led;
  undecided = holds.undecided;
  inner = same inside (omega (arith, down.1, down.2)) ∙ holds.inner;
  outer = same outside down.2 ∙ holds.outer;
}

pub node_eased : (p : Clearing) (u w v x : ℕ) (nodes : List Node) (enter entered : ℕ → List Mark) (k : ℕ) (f : List Mark) (node : Node) → w ≤ u → v ≤ x →
    LinksDown nodes k node.end → ((j : ℕ) → j < length nodes → entered j ≡ enter j) → IsNodeAt p u v enter f node → IsNodeAt p w x entered f node
node_eased p u w v x nodes enter entered k f node less more down same at = record {
  leads = at.leads;
  fixed = at.fixed;
  fits = at.fits;
  ends = end_eased p u w v x nodes enter entered k at.leads node.end less more down same at.ends;
}

leaf_ends : (p : Clearing) (u v : ℕ) (enter : ℕ → List Mark) (f : List Mark) (end : NodeEnd) → LeafHolds p v f end → EndHolds p u v enter f end
leaf_ends p u v enter f (Open lam bound) holds = holds
leaf_ends p u v enter f (Pruned line) holds = holds
leaf_ends p u v enter f (Branched place lam inside outside) holds = absurd holds

pub leaf_node : (p : Clearing) (u v : ℕ) (enter : ℕ → List Mark) (f : List Mark) (node : Node) → IsLeafAt p v f node → IsNodeAt p u v enter f node
leaf_node p u v enter f node leaf = record {
  leads = leaf.leads;
  fixed = leaf.fixed;
  fits = leaf.fits;
  ends = leaf_ends p u v enter leaf.leads node.end leaf.ends;
}

pub is_leaf : (p : Clearing) (v : ℕ) (f : List Mark) (end : NodeEnd) → LeafHolds p v f end → IsLeaf end
is_leaf p v f (Open lam bound) holds = tt
is_leaf p v f (Pruned line) holds = tt
is_leaf p v f (Branched place lam inside outside) holds = holds
