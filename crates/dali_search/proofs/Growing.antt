use Rattle.std.proofs.Common.{◌≡◌, inl, inr, ℕ, ◌+◌, ◌<◌, ◌≤◌, max, true, Some, List, [], ◌∷◌, length, set, eqb, if◌then◌else◌, refl, ap, sym, ◌∙◌, subst, arith}
use Rattle.std.proofs.lemmas.Bool.{eq-eqb, ne_eqb}
use Rattle.std.proofs.lemmas.List.{length-set}
use Rattle.dali_base.specs.Limits.{most_bound}
use Rattle.dali_problem.specs.declared.mark.Mark.{Mark}
use Rattle.dali_problem.specs.declared.mark.Mark.TheVariants.{Chosen, Left}
use Rattle.dali_problem.specs.Clearing.{Clearing}
use Rattle.dali_problem.specs.Limits.{IsProblem}
use Rattle.dali_fixes.specs.Fixed.{after}
use Rattle.dali_fixes.proofs.Exchange.{after_length}
use Rattle.dali_problem.specs.Partial.{Agrees}
use Rattle.dali_check.specs.Proves.{closes}
use Rattle.dali_check.specs.Lean.{reaches, is_open}
use Rattle.dali_search.specs.declared.best.Best.{Best}
use Rattle.dali_search.specs.declared.node.Node.{Node}
use Rattle.dali_search.specs.declared.node.NodeEnd.{NodeEnd}
use Rattle.dali_search.specs.declared.node.NodeEnd.TheVariants.{Open, Pruned, Branched}
use Rattle.dali_search.specs.declared.node.Total.{Total}
use Rattle.dali_search.specs.declared.split.Split.{Split}
use Rattle.dali_search.specs.Start.{start_of}
use Rattle.dali_search.specs.Best.{IsBest}
use Rattle.dali_search.specs.Nodes.{node_at, total_at, total_of, LinksDown, AreTotals, IsOpen, IsLeaf, leaf_bound}
use Rattle.dali_search.specs.Arena.{IsOpenAt, EndHolds, IsNodeAt, IsArena}
use Rattle.dali_search.specs.Sides.{LeafHolds, IsLeafAt, IsBelow, IsSplitAt, lam_of, IsOpenEnd}
use Rattle.dali_search.specs.Adding.{added, CanAdd}
use Rattle.dali_search.specs.Searched.{IsSearched}
use Rattle.dali_search.proofs.Adding.{which, branched_node, added_length, added_other, added_here, added_inside, added_outside, added_linked}
use Rattle.dali_search.proofs.Bounding.{arena_most}
use Rattle.dali_search.proofs.Easing.{led_of, node_eased, leaf_node, is_leaf}
use Rattle.dali_search.proofs.Falling.{reaches_less, some_same}
use Rattle.dali_search.proofs.Starting.{start_length}

-- the partial choices of the nodes with two more
abbrev entered : ℕ → List Mark → ℕ → (ℕ → List Mark) → ℕ → List Mark
entered n f place enter j = if eqb j n then set f place Chosen else (if eqb j (n + 1) then set f place Left else enter j)

entered_first : (n : ℕ) (f : List Mark) (place : ℕ) (enter : ℕ → List Mark) → entered n f place enter n ≡ set f place Chosen
entered_first n f place enter = ap (λ b. if b then set f place Chosen else (if eqb n (n + 1) then set f place Left else enter n)) (eq-eqb n n refl)

entered_second : (n : ℕ) (f : List Mark) (place : ℕ) (enter : ℕ → List Mark) → entered n f place enter (n + 1) ≡ set f place Left
entered_second n f place enter =
    ap (λ b. if b then set f place Chosen else (if eqb (n + 1) (n + 1) then set f place Left else enter (n + 1))) (ne_eqb (n + 1) n (omega arith))
    ∙ ap (λ b. if b then set f place Left else enter (n + 1)) (eq-eqb (n + 1) (n + 1) refl)

entered_before : (n : ℕ) (f : List Mark) (place : ℕ) (enter : ℕ → List Mark) (j : ℕ) → j < n → entered n f place enter j ≡ enter j
entered_before n f place enter j below =
    ap (λ b. if b then set f place Chosen else (if eqb j (n + 1) then set f place Left else enter j)) (ne_eqb j n (omega (arith, below)))
    ∙ ap (λ b. if b then set f place Left else enter j) (ne_eqb j (n + 1) (omega (arith, below)))

-- an open node that is reached
pub record Reached (p : Clearing) (v : ℕ) (f : List Mark) (end : NodeEnd) (greatest : ℕ) : Type 0 where
  pub lam : List (ℕ × ℕ)
  pub bound : ℕ
  pub is : end ≡ Open lam bound
  pub total : bound ≡ greatest
  pub holds : IsOpenAt p v f lam bound

reached_by : (p : Clearing) (u v : ℕ) (totals : List Total) (enter : ℕ → List Mark) (f : List Mark) (end : NodeEnd) (total : Total) → total ≡ total_of totals end →
    IsOpen end → EndHolds p u v enter f end → Reached p v f end total.greatest
reached_by p u v totals enter f (Open lam bound) total same is holds = record {
  lam = lam;
  bound = bound;
  is = refl;
  total = sym (ap (λ (t : Total). t.greatest) same);
  holds = holds;
}
reached_by p u v totals enter f (Pruned line) total same is holds = absurd is
reached_by p u v totals enter f (Branched place lam inside outside) total same is holds = absurd is

pub reached_at : (p : Clearing) (u v : ℕ) (nodes : List Node) (totals : List Total) (enter : ℕ → List Mark) (f : List Mark) (k : ℕ) → IsArena p u v nodes enter →
    AreTotals nodes totals → k < length nodes → IsOpen (node_at nodes k).end → after p (node_at nodes k).fixes (enter k) ≡ Some f →
    Reached p v f (node_at nodes k).end (total_at totals k).greatest
reached_at p u v nodes totals enter f k arena exact below is leads =
    let at = arena.each k below in
    reached_by p u v totals enter f (node_at nodes k).end (total_at totals k) (exact.each k below) is
    (subst (λ (g : List Mark). EndHolds p u v enter g (node_at nodes k).end) (some_same (after p (node_at nodes k).fixes (enter k)) at.leads f at.fixed leads) at.ends)

-- what a split at an open node may be added to
pub can_add : (p : Clearing) (v x k : ℕ) (f : List Mark) (totals : List Total) (end : NodeEnd) (split : Split) → Reached p v f end (total_at totals k).greatest →
    IsSplitAt p x k f (lam_of end) split → CanAdd totals k split
can_add p v x k f totals end split reached at =
    let lam_is : lam_of end ≡ reached.lam = ap lam_of reached.is in
    let below : (b : ℕ) → IsBelow p (lam_of end) f b → b ≤ (total_at totals k).greatest = λ b is.
    subst (λ (m : ℕ). b ≤ m) reached.total
    (subst (λ (l : List (ℕ × ℕ)). (w : ℕ) → closes p w l f ≡ true → b ≤ w) lam_is is.below reached.bound reached.holds.above) in
    record {
      inner = is_leaf p x at.inner.leads split.inside.end at.inner.ends;
      outer = is_leaf p x at.outer.leads split.outside.end at.outer.ends;
      inner_above = at.inner_above;
      outer_above = at.outer_above;
      inner_below = below (leaf_bound split.inside.end) at.inner_below;
      outer_below = below (leaf_bound split.outside.end) at.outer_below;
    }

-- an arena with one node more branched
pub arena_added : (p : Clearing) (u w v x : ℕ) (nodes : List Node) (totals : List Total) (enter : ℕ → List Mark) (k : ℕ) (f : List Mark) (split : Split) →
    IsArena p u v nodes enter → k < length nodes → w ≤ u → v ≤ x → after p (node_at nodes k).fixes (enter k) ≡ Some f →
    (reached : Reached p v f (node_at nodes k).end (total_at totals k).greatest) → reaches p w reached.lam f ≡ true →
    IsSplitAt p x k f reached.lam split → CanAdd totals k split →
    IsArena p w x (added nodes k split) (entered (length nodes) f split.place enter)
arena_added p u w v x nodes totals enter k f split arena within less more leads reached reaches_w at can =
    let n : ℕ = length nodes in
    let now : ℕ → List Mark = entered n f split.place enter in
    let size = added_length nodes k split in
    let same : (j : ℕ) → j < n → now j ≡ enter j = entered_before n f split.place enter in
    let is_open : IsOpen (node_at nodes k).end = subst (λ (e : NodeEnd). IsOpen e) (sym reached.is) tt in
    let f_size : length f ≡ length p.items = after_length p (node_at nodes k).fixes (enter k) f leads ∙ arena.size k within in
    let at_node : (j : ℕ) (node : Node) → node_at (added nodes k split) j ≡ node → IsNodeAt p w x now (now j) node → IsNodeAt p w x now (now j) (node_at (added nodes k split) j) =
    λ j node is holds. subst (λ (y : Node). IsNodeAt p w x now (now j) y) (sym is) holds in
    let entered_at : (j : ℕ) (g : List Mark) (node : Node) → now j ≡ g → IsNodeAt p w x now g node → IsNodeAt p w x now (now j) node =
    λ j g node is holds. subst (λ (h : List Mark). IsNodeAt p w x now h node) (sym is) holds in
    record {
      linked = added_linked nodes totals k split arena.linked within is_open can;
      size = (λ j below. elim (which n n j (omega (arith, below, size))) as (λ _. length (now j) ≡ length p.items) [
        | inl is ↦ ap (λ (i : ℕ). length (now i)) is ∙ ap length (entered_first n f split.place enter) ∙ length-set f split.place Chosen ∙ f_size
        | inr (inl old) ↦ ap length (same j old.0) ∙ arena.size j old.0
        | inr (inr (inl is)) ↦ ap (λ (i : ℕ). length (now i)) is ∙ ap length (entered_first n f split.place enter) ∙ length-set f split.place Chosen ∙ f_size
        | inr (inr (inr is)) ↦ ap (λ (i : ℕ). length (now i)) is ∙ ap length (entered_second n f split.place enter) ∙ length-set f split.place Left ∙ f_size
      ]);
      each = (λ j below. elim (which n k j (omega (arith, below, size))) as (λ _. IsNodeAt p w x now (now j) (node_at (added nodes k split) j)) [
        | inl is ↦ subst (λ (i : ℕ). IsNodeAt p w x now (now i) (node_at (added nodes k split) i)) (sym is)
            (at_node k (branched_node nodes k split) (added_here nodes k split within)
            (entered_at k (enter k) (branched_node nodes k split) (same k within)
            (record {
              leads = f;
              fixed = leads;
              fits = (arena.each k within).fits;
              ends = record {
                listed = at.lead.listed;
                led = led_of p w split.lam f split.place (at.lead.reached w reaches_w) (at.lead.worked reached.holds.worked) at.nearest;
                undecided = at.undecided;
                inner = entered_first n f split.place enter;
                outer = entered_second n f split.place enter;
              };
            })))
        | inr (inl old) ↦ at_node j (node_at nodes j) (added_other nodes k j split old.0 old.1)
            (entered_at j (enter j) (node_at nodes j) (same j old.0)
            (node_eased p u w v x nodes enter now j (enter j) (node_at nodes j) less more (arena.linked.down j old.0) same (arena.each j old.0)))
        | inr (inr (inl is)) ↦ subst (λ (i : ℕ). IsNodeAt p w x now (now i) (node_at (added nodes k split) i)) (sym is)
            (at_node n split.inside (added_inside nodes k split)
            (entered_at n (set f split.place Chosen) split.inside (entered_first n f split.place enter)
            (leaf_node p w x now (set f split.place Chosen) split.inside at.inner)))
        | inr (inr (inr is)) ↦ subst (λ (i : ℕ). IsNodeAt p w x now (now i) (node_at (added nodes k split) i)) (sym is)
            (at_node (n + 1) split.outside (added_outside nodes k split)
            (entered_at (n + 1) (set f split.place Left) split.outside (entered_second n f split.place enter)
            (leaf_node p w x now (set f split.place Left) split.outside at.outer)))
      ]);
    }

-- a search with one node more branched
pub searched_added : (p : Clearing) (v : ℕ) (best : Best) (nodes : List Node) (totals more : List Total) (k : ℕ) (f : List Mark) (split : Split) → IsProblem p →
    (searched : IsSearched p v nodes totals) → v < (total_at totals 0).greatest → IsBest p best → v ≤ best.value → k < length nodes →
    (total_at totals k).greatest ≡ (total_at totals 0).greatest → after p (node_at nodes k).fixes (searched.has.enter k) ≡ Some f →
    Reached p v f (node_at nodes k).end (total_at totals k).greatest → IsSplitAt p best.value k f (lam_of (node_at nodes k).end) split →
    AreTotals (added nodes k split) more → (total_at more 0).greatest ≤ (total_at totals 0).greatest → (total_at more 0).branches ≡ (total_at totals 0).branches + 1 →
    IsSearched p best.value (added nodes k split) more
searched_added p v best nodes totals more k f split limits searched above is_best better within greatest leads reached at exact lower one =
    let has = searched.has in
    let u : ℕ = max v (total_at totals 0).greatest in
    let w : ℕ = max best.value (total_at more 0).greatest in
    let found = arena_most p u v nodes totals has.enter best.places limits has.arena searched.exact is_best.grown.places is_best.grown.feasible
    (subst (λ (g : List Mark). Agrees g best.places) (sym has.root) is_best.grown.agrees) in
    let less : w ≤ u = omega (arith, found, is_best.value, lower, above) in
    let low : w ≤ reached.bound = omega (arith, found, is_best.value, lower, reached.total, greatest) in
    let lam_is : lam_of (node_at nodes k).end ≡ reached.lam = ap lam_of reached.is in
    record {
      has = record {
        enter = entered (length nodes) f split.place has.enter;
        root = entered_before (length nodes) f split.place has.enter 0 has.arena.linked.some ∙ has.root;
        arena = arena_added p u w v best.value nodes totals has.enter k f split has.arena within less better leads reached
            (reaches_less p reached.bound w reached.lam f low (reached.holds.least (omega (arith, reached.total, greatest, above))))
            (subst (λ (l : List (ℕ × ℕ)). IsSplitAt p best.value k f l split) lam_is at)
            (can_add p v best.value k f totals (node_at nodes k).end split reached at);
      };
      exact = exact;
      size = added_length nodes k split ∙ (omega (arith, searched.size, one));
      small = omega (arith, lower, searched.small);
    }

-- the arena of a root alone
leaf_small : (p : Clearing) (v : ℕ) (f : List Mark) (end : NodeEnd) → LeafHolds p v f end → (total_of [] end).greatest ≤ most_bound
leaf_small p v f (Open lam bound) holds = holds.small
leaf_small p v f (Pruned line) holds = omega arith
leaf_small p v f (Branched place lam inside outside) holds = absurd holds

leaf_branches : (end : NodeEnd) → IsLeaf end → (total_of [] end).branches ≡ 0
leaf_branches (Open lam bound) is = refl
leaf_branches (Pruned line) is = refl
leaf_branches (Branched place lam inside outside) is = absurd is

leaf_same : (totals : List Total) (end : NodeEnd) → IsLeaf end → total_of [] end ≡ total_of totals end
leaf_same totals (Open lam bound) is = refl
leaf_same totals (Pruned line) is = refl
leaf_same totals (Branched place lam inside outside) is = absurd is

leaf_linked : (nodes : List Node) (k : ℕ) (end : NodeEnd) → IsLeaf end → LinksDown nodes k end
leaf_linked nodes k (Open lam bound) is = tt
leaf_linked nodes k (Pruned line) is = tt
leaf_linked nodes k (Branched place lam inside outside) is = absurd is

pub searched_root : (p : Clearing) (v : ℕ) (node : Node) → IsLeafAt p v (start_of p) node → IsSearched p v (node ∷ []) (total_of [] node.end ∷ [])
searched_root p v node leaf =
    let is : IsLeaf node.end = is_leaf p v leaf.leads node.end leaf.ends in
    let total : Total = total_of [] node.end in
    let first : (k : ℕ) → k < 1 → 0 ≡ k = λ k below. omega (arith, below) in
    record {
      has = record {
        enter = (λ _. start_of p);
        root = refl;
        arena = record {
          linked = record {
            some = omega arith;
            down = (λ k below. subst (λ (i : ℕ). LinksDown (node ∷ []) i (node_at (node ∷ []) i).end) (first k below) (leaf_linked (node ∷ []) 0 node.end is));
            before = (λ k some below. absurd (omega (arith, some, below)));
            up = (λ k some below. absurd (omega (arith, some, below)));
          };
          size = (λ k below. start_length p);
          each = (λ k below. subst (λ (i : ℕ). IsNodeAt p (max v total.greatest) v (λ _. start_of p) (start_of p) (node_at (node ∷ []) i)) (first k below)
              (leaf_node p (max v total.greatest) v (λ _. start_of p) (start_of p) node leaf));
        };
      };
      exact = record {
        size = refl;
        each = (λ k below. subst (λ (i : ℕ). total_at (total ∷ []) i ≡ total_of (total ∷ []) (node_at (node ∷ []) i).end) (first k below) (leaf_same (total ∷ []) node.end is));
        most = (λ k below. subst (λ (i : ℕ). (total_at (total ∷ []) i).branches ≤ (total_at (total ∷ []) 0).branches) (first k below) (omega arith));
      };
      size = omega (arith, leaf_branches node.end is);
      small = leaf_small p v leaf.leads node.end leaf.ends;
    }

-- where a walk down a search ends
pub record Landed (p : Clearing) (nodes : List Node) (totals : List Total) (start f : List Mark) (k : ℕ) : Type 0 where
  pub within : k < length nodes
  pub is_open : IsOpen (node_at nodes k).end
  pub greatest : (total_at totals k).greatest ≡ (total_at totals 0).greatest
  pub leads : (u v : ℕ) (enter : ℕ → List Mark) → IsArena p u v nodes enter → enter 0 ≡ start → after p (node_at nodes k).fixes (enter k) ≡ Some f

pub landed_reached : (p : Clearing) (v : ℕ) (nodes : List Node) (totals : List Total) (f : List Mark) (k : ℕ) → IsSearched p v nodes totals →
    Landed p nodes totals (start_of p) f k → Reached p v f (node_at nodes k).end (total_at totals k).greatest
landed_reached p v nodes totals f k searched landed =
    let has = searched.has in
    reached_at p (max v (total_at totals 0).greatest) v nodes totals has.enter f k has.arena searched.exact landed.within landed.is_open
    (landed.leads (max v (total_at totals 0).greatest) v has.enter has.arena has.root)

open_end : (p : Clearing) (v : ℕ) (f : List Mark) (end : NodeEnd) (lam : List (ℕ × ℕ)) (bound : ℕ) → end ≡ Open lam bound → IsOpenAt p v f lam bound → IsOpenEnd p end
open_end p v f end lam bound is holds = subst (λ (e : NodeEnd). IsOpenEnd p e) (sym is) holds.listed

pub reached_open : (p : Clearing) (v : ℕ) (f : List Mark) (end : NodeEnd) (greatest : ℕ) → Reached p v f end greatest → IsOpenEnd p end
reached_open p v f end greatest reached = open_end p v f end reached.lam reached.bound reached.is reached.holds

pub reached_some : (p : Clearing) (v : ℕ) (f : List Mark) (end : NodeEnd) (greatest : ℕ) → Reached p v f end greatest → v < greatest → is_open p f ≡ true
reached_some p v f end greatest reached above = reached.holds.unfinished (omega (arith, reached.total, above))
