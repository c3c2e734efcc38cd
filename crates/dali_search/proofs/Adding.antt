use Rattle.std.proofs.Common.{◌≡◌, ◌≢◌, inl, inr, ◌⊎◌, ℕ, ◌+◌, ◌<◌, ◌≤◌, max, List, [], ◌∷◌, ◌++◌, length, get_or, set, refl, ap, sym, ◌∙◌, subst, add-zero, arith}
use Rattle.std.proofs.lemmas.Bool.{cases_eq, cases_lt}
use Rattle.std.proofs.lemmas.List.{get_or-set_same, get_or-set_other, get_or_append_left, get_or-append-add, length-set, length-append}
use Rattle.dali_search.specs.declared.node.Node.{Node}
use Rattle.dali_search.specs.declared.node.NodeEnd.{NodeEnd}
use Rattle.dali_search.specs.declared.node.NodeEnd.TheVariants.{Open, Pruned, Branched}
use Rattle.dali_search.specs.declared.node.Total.{Total}
use Rattle.dali_search.specs.declared.split.Split.{Split}
use Rattle.dali_search.specs.Nodes.{node_at, no_node, total_at, no_total, total_of, LinksDown, IsSideOf, AreLinked, AreTotals, AreTotalsBut, IsOpen, IsLeaf, leaf_bound}
use Rattle.dali_search.specs.Adding.{end_with, added, CanAdd}

-- two items behind a list
pub pair_before : {X : Type 0} → (xs : List X) (a b d : X) (j : ℕ) → j < length xs → get_or (xs ++ a ∷ b ∷ []) j d ≡ get_or xs j d
pair_before xs a b d j below = get_or_append_left xs (a ∷ b ∷ []) d j below

pub pair_first : {X : Type 0} → (xs : List X) (a b d : X) → get_or (xs ++ a ∷ b ∷ []) (length xs) d ≡ a
pair_first xs a b d = ap (λ (k : ℕ). get_or (xs ++ a ∷ b ∷ []) k d) (sym (add-zero (length xs))) ∙ get_or-append-add xs (a ∷ b ∷ []) 0 d

pub pair_second : {X : Type 0} → (xs : List X) (a b d : X) → get_or (xs ++ a ∷ b ∷ []) (length xs + 1) d ≡ b
pair_second xs a b d = get_or-append-add xs (a ∷ b ∷ []) 1 d

pub pair_length : {X : Type 0} → (xs : List X) (a b : X) → length (xs ++ a ∷ b ∷ []) ≡ length xs + 2
pair_length xs a b = length-append xs (a ∷ b ∷ [])

-- node k with its branch
abbrev pub branched_node : List Node → ℕ → Split → Node
branched_node nodes k split = record { above = (node_at nodes k).above; fixes = (node_at nodes k).fixes; end = end_with (length nodes) split }

pub added_length : (nodes : List Node) (k : ℕ) (split : Split) → length (added nodes k split) ≡ length nodes + 2
added_length nodes k split =
    pair_length (set nodes k (branched_node nodes k split)) split.inside split.outside ∙ ap (λ (n : ℕ). n + 2) (length-set nodes k (branched_node nodes k split))

set_before : (nodes : List Node) (k j : ℕ) (split : Split) → j < length nodes →
    node_at (added nodes k split) j ≡ node_at (set nodes k (branched_node nodes k split)) j
set_before nodes k j split below =
    pair_before (set nodes k (branched_node nodes k split)) split.inside split.outside no_node j (omega (arith, below, length-set nodes k (branched_node nodes k split)))

pub added_other : (nodes : List Node) (k j : ℕ) (split : Split) → j < length nodes → j ≢ k → node_at (added nodes k split) j ≡ node_at nodes j
added_other nodes k j split below off = set_before nodes k j split below ∙ get_or-set_other nodes k j (branched_node nodes k split) no_node off

pub added_here : (nodes : List Node) (k : ℕ) (split : Split) → k < length nodes → node_at (added nodes k split) k ≡ branched_node nodes k split
added_here nodes k split below = set_before nodes k k split below ∙ get_or-set_same nodes k (branched_node nodes k split) no_node below

pub added_inside : (nodes : List Node) (k : ℕ) (split : Split) → node_at (added nodes k split) (length nodes) ≡ split.inside
added_inside nodes k split =
    ap (node_at (added nodes k split)) (sym (length-set nodes k (branched_node nodes k split)))
    ∙ pair_first (set nodes k (branched_node nodes k split)) split.inside split.outside no_node

pub added_outside : (nodes : List Node) (k : ℕ) (split : Split) → node_at (added nodes k split) (length nodes + 1) ≡ split.outside
added_outside nodes k split =
    ap (λ (n : ℕ). node_at (added nodes k split) (n + 1)) (sym (length-set nodes k (branched_node nodes k split)))
    ∙ pair_second (set nodes k (branched_node nodes k split)) split.inside split.outside no_node

-- which node a number is of
abbrev pub Which : ℕ → ℕ → ℕ → Type 0
Which n k j = (j ≡ k) ⊎ (((j < n) × (j ≢ k)) ⊎ ((j ≡ n) ⊎ (j ≡ n + 1)))

pub which : (n k j : ℕ) → j < n + 2 → Which n k j
which n k j below = elim (cases_eq j k) as (λ _. Which n k j) [
  | inl here ↦ inl here
  | inr off ↦ elim (cases_lt j n) as (λ _. Which n k j) [
    | inl before ↦ inr (inl (before, off))
    | inr past ↦ elim (cases_eq j n) as (λ _. Which n k j) [
      | inl first ↦ inr (inr (inl first))
      | inr later ↦ inr (inr (inr (omega (arith, below, past, later))))
    ]
  ]
]

added_above : (nodes : List Node) (k j : ℕ) (split : Split) → k < length nodes → j < length nodes →
    (node_at (added nodes k split) j).above ≡ (node_at nodes j).above
added_above nodes k j split within below = elim (cases_eq j k) as (λ _. (node_at (added nodes k split) j).above ≡ (node_at nodes j).above) [
  | inl here ↦
      ap (λ (i : ℕ). (node_at (added nodes k split) i).above) here ∙ ap (λ (x : Node). x.above) (added_here nodes k split within)
      ∙ ap (λ (i : ℕ). (node_at nodes i).above) (sym here)
  | inr off ↦ ap (λ (x : Node). x.above) (added_other nodes k j split below off)
]

leaf_down : (nodes : List Node) (j : ℕ) (end : NodeEnd) → IsLeaf end → LinksDown nodes j end
leaf_down nodes j (Open lam bound) is = tt
leaf_down nodes j (Pruned line) is = tt
leaf_down nodes j (Branched place lam inside outside) is = absurd is

still_down : (nodes : List Node) (k j : ℕ) (split : Split) (end : NodeEnd) → k < length nodes → LinksDown nodes j end → LinksDown (added nodes k split) j end
still_down nodes k j split (Open lam bound) within down = tt
still_down nodes k j split (Pruned line) within down = tt
still_down nodes k j split (Branched place lam inside outside) within down = (
  down.0,
  down.1,
  omega (arith, down.2, added_length nodes k split),
  added_above nodes k inside split within (omega (arith, down.1, down.2)) ∙ down.3,
  added_above nodes k outside split within down.2 ∙ down.4,
)

open_side : (j : ℕ) (end : NodeEnd) → IsOpen end → IsSideOf j end → ⊥
open_side j (Open lam bound) is side = side
open_side j (Pruned line) is side = is
open_side j (Branched place lam inside outside) is side = is

down_at : (nodes : List Node) (j : ℕ) (a b : Node) → a ≡ b → LinksDown nodes j b.end → LinksDown nodes j a.end
down_at nodes j a b is down = subst (λ (x : Node). LinksDown nodes j x.end) (sym is) down

pub added_linked : (nodes : List Node) (totals : List Total) (k : ℕ) (split : Split) → AreLinked nodes → k < length nodes → IsOpen (node_at nodes k).end →
    CanAdd totals k split → AreLinked (added nodes k split)
added_linked nodes totals k split linked within is_open can =
    let n : ℕ = length nodes in
    let size = added_length nodes k split in
    let more : List Node = added nodes k split in
    let up_from : (j p : ℕ) → p < n → p ≢ k → IsSideOf j (node_at nodes p).end → IsSideOf j (node_at more p).end =
    λ j p below off side. subst (λ (x : Node). IsSideOf j x.end) (sym (added_other nodes k p split below off)) side in
    let new_up : (j a : ℕ) → a ≡ k → (n ≡ j) ⊎ (n + 1 ≡ j) → IsSideOf j (node_at more a).end =
    λ j a is side. subst (λ (i : ℕ). IsSideOf j (node_at more i).end) (sym is)
    (subst (λ (x : Node). IsSideOf j x.end) (sym (added_here nodes k split within)) side) in
    let first_above : (node_at more n).above ≡ k = ap (λ (x : Node). x.above) (added_inside nodes k split) ∙ can.inner_above in
    let second_above : (node_at more (n + 1)).above ≡ k = ap (λ (x : Node). x.above) (added_outside nodes k split) ∙ can.outer_above in
    record {
      some = omega (arith, size);
      down = (λ j below. elim (which n k j (omega (arith, below, size))) as (λ _. LinksDown more j (node_at more j).end) [
        | inl here ↦ subst (λ (i : ℕ). LinksDown more i (node_at more i).end) (sym here)
            (down_at more k (node_at more k) (branched_node nodes k split) (added_here nodes k split within)
            (within, omega arith, omega (arith, size), first_above, second_above))
        | inr (inl old) ↦ down_at more j (node_at more j) (node_at nodes j) (added_other nodes k j split old.0 old.1)
            (still_down nodes k j split (node_at nodes j).end within (linked.down j old.0))
        | inr (inr (inl first)) ↦ subst (λ (i : ℕ). LinksDown more i (node_at more i).end) (sym first)
            (down_at more n (node_at more n) split.inside (added_inside nodes k split) (leaf_down more n split.inside.end can.inner))
        | inr (inr (inr second)) ↦ subst (λ (i : ℕ). LinksDown more i (node_at more i).end) (sym second)
            (down_at more (n + 1) (node_at more (n + 1)) split.outside (added_outside nodes k split) (leaf_down more (n + 1) split.outside.end can.outer))
      ]);
      before = (λ j some below. elim (which n n j (omega (arith, below, size))) as (λ _. (node_at more j).above < j) [
        | inl first ↦ subst (λ (i : ℕ). (node_at more i).above < i) (sym first) (omega (arith, first_above, within))
        | inr (inl old) ↦ omega (arith, added_above nodes k j split within old.0, linked.before j some old.0)
        | inr (inr (inl first)) ↦ subst (λ (i : ℕ). (node_at more i).above < i) (sym first) (omega (arith, first_above, within))
        | inr (inr (inr second)) ↦ subst (λ (i : ℕ). (node_at more i).above < i) (sym second) (omega (arith, second_above, within))
      ]);
      up = (λ j some below. elim (which n n j (omega (arith, below, size))) as (λ _. IsSideOf j (node_at more (node_at more j).above).end) [
        | inl first ↦ new_up j (node_at more j).above (ap (λ (i : ℕ). (node_at more i).above) first ∙ first_above) (inl (sym first))
        | inr (inl old) ↦
            let p : ℕ = (node_at nodes j).above in
            let low : p < n = omega (arith, linked.before j some old.0, old.0) in
            let off : p ≢ k = λ is. open_side j (node_at nodes k).end is_open (subst (λ (i : ℕ). IsSideOf j (node_at nodes i).end) is (linked.up j some old.0)) in
            subst (λ (i : ℕ). IsSideOf j (node_at more i).end) (sym (added_above nodes k j split within old.0)) (up_from j p low off (linked.up j some old.0))
        | inr (inr (inl first)) ↦ new_up j (node_at more j).above (ap (λ (i : ℕ). (node_at more i).above) first ∙ first_above) (inl (sym first))
        | inr (inr (inr second)) ↦ new_up j (node_at more j).above (ap (λ (i : ℕ). (node_at more i).above) second ∙ second_above) (inr (sym second))
      ]);
    }

-- the totals of both sides behind the others
abbrev pub more_totals : List Total → Split → List Total
more_totals totals split = totals ++ total_of [] split.inside.end ∷ total_of [] split.outside.end ∷ []

leaf_total_is : (totals : List Total) (end : NodeEnd) → IsLeaf end → total_of totals end ≡ total_of [] end
leaf_total_is totals (Open lam bound) is = refl
leaf_total_is totals (Pruned line) is = refl
leaf_total_is totals (Branched place lam inside outside) is = absurd is

leaf_none : (end : NodeEnd) → IsLeaf end → (total_of [] end).branches ≡ 0
leaf_none (Open lam bound) is = refl
leaf_none (Pruned line) is = refl
leaf_none (Branched place lam inside outside) is = absurd is

leaf_greatest : (end : NodeEnd) → IsLeaf end → (total_of [] end).greatest ≡ leaf_bound end
leaf_greatest (Open lam bound) is = refl
leaf_greatest (Pruned line) is = refl
leaf_greatest (Branched place lam inside outside) is = absurd is

open_none : (totals : List Total) (end : NodeEnd) → IsOpen end → (total_of totals end).branches ≡ 0
open_none totals (Open lam bound) is = refl
open_none totals (Pruned line) is = absurd is
open_none totals (Branched place lam inside outside) is = absurd is

still_total : (nodes : List Node) (totals : List Total) (j : ℕ) (split : Split) (end : NodeEnd) → length totals ≡ length nodes → LinksDown nodes j end →
    total_of (more_totals totals split) end ≡ total_of totals end
still_total nodes totals j split (Open lam bound) size down = refl
still_total nodes totals j split (Pruned line) size down = refl
still_total nodes totals j split (Branched place lam inside outside) size down =
    let more : List Total = more_totals totals split in
    let inner : total_at more inside ≡ total_at totals inside = pair_before totals (total_of [] split.inside.end) (total_of [] split.outside.end) no_total inside (omega (arith, down.1, down.2, size)) in
    let outer : total_at more outside ≡ total_at totals outside = pair_before totals (total_of [] split.inside.end) (total_of [] split.outside.end) no_total outside (omega (arith, down.2, size)) in
    ap (λ (x : Total). record { greatest = max x.greatest (total_at more outside).greatest; branches = x.branches + (total_at more outside).branches + 1 }) inner
    ∙ ap (λ (x : Total). record { greatest = max (total_at totals inside).greatest x.greatest; branches = (total_at totals inside).branches + x.branches + 1 }) outer

pub added_totals : (nodes : List Node) (totals : List Total) (k : ℕ) (split : Split) → AreLinked nodes → AreTotals nodes totals → k < length nodes →
    IsOpen (node_at nodes k).end → CanAdd totals k split → AreTotalsBut (added nodes k split) (more_totals totals split) k
added_totals nodes totals k split linked exact within is_open can =
    let n : ℕ = length nodes in
    let ta : Total = total_of [] split.inside.end in
    let tb : Total = total_of [] split.outside.end in
    let more : List Total = more_totals totals split in
    let size = added_length nodes k split in
    let before : (j : ℕ) → j < n → total_at more j ≡ total_at totals j = λ j below. pair_before totals ta tb no_total j (omega (arith, below, exact.size)) in
    let first : total_at more n ≡ ta = ap (total_at more) (sym exact.size) ∙ pair_first totals ta tb no_total in
    let second : total_at more (n + 1) ≡ tb = ap (λ (i : ℕ). total_at more (i + 1)) (sym exact.size) ∙ pair_second totals ta tb no_total in
    let here : (node_at (added nodes k split) k).end ≡ end_with n split = ap (λ (x : Node). x.end) (added_here nodes k split within) in
    let first_none : (total_at more n).branches ≡ 0 = ap (λ (x : Total). x.branches) first ∙ leaf_none split.inside.end can.inner in
    let second_none : (total_at more (n + 1)).branches ≡ 0 = ap (λ (x : Total). x.branches) second ∙ leaf_none split.outside.end can.outer in
    let first_greatest : (total_at more n).greatest ≡ leaf_bound split.inside.end = ap (λ (x : Total). x.greatest) first ∙ leaf_greatest split.inside.end can.inner in
    let second_greatest : (total_at more (n + 1)).greatest ≡ leaf_bound split.outside.end = ap (λ (x : Total). x.greatest) second ∙ leaf_greatest split.outside.end can.outer in
    let own : (total_at more k).branches ≡ 0 = ap (λ (x : Total). x.branches) (before k within ∙ exact.each k within) ∙ open_none totals (node_at nodes k).end is_open in
    let own_greatest : (total_at more k).greatest ≡ (total_at totals k).greatest = ap (λ (x : Total). x.greatest) (before k within) in
    let root : (total_at more 0).branches ≡ (total_at totals 0).branches = ap (λ (x : Total). x.branches) (before 0 linked.some) in
    record {
      size = pair_length totals ta tb ∙ ap (λ (i : ℕ). i + 2) exact.size ∙ sym size;
      each = (λ j below off. elim (which n k j (omega (arith, below, size))) as (λ _. total_at more j ≡ total_of more (node_at (added nodes k split) j).end) [
        | inl same ↦ absurd (off same)
        | inr (inl old) ↦
            before j old.0 ∙ exact.each j old.0 ∙ sym (still_total nodes totals j split (node_at nodes j).end exact.size (linked.down j old.0))
            ∙ ap (λ (x : Node). total_of more x.end) (sym (added_other nodes k j split old.0 old.1))
        | inr (inr (inl is)) ↦
            ap (total_at more) is ∙ first ∙ sym (leaf_total_is more split.inside.end can.inner)
            ∙ ap (λ (x : Node). total_of more x.end) (sym (added_inside nodes k split))
            ∙ ap (λ (i : ℕ). total_of more (node_at (added nodes k split) i).end) (sym is)
        | inr (inr (inr is)) ↦
            ap (total_at more) is ∙ second ∙ sym (leaf_total_is more split.outside.end can.outer)
            ∙ ap (λ (x : Node). total_of more x.end) (sym (added_outside nodes k split))
            ∙ ap (λ (i : ℕ). total_of more (node_at (added nodes k split) i).end) (sym is)
      ]);
      fewer = ap (λ (e : NodeEnd). (total_of more e).branches) here ∙ (omega (arith, first_none, second_none, own));
      lower = subst (λ (e : NodeEnd). (total_of more e).greatest ≤ (total_at more k).greatest) (sym here)
          (omega (arith, first_greatest, second_greatest, own_greatest, can.inner_below, can.outer_below));
      most = (λ j below. elim (which n n j (omega (arith, below, size))) as (λ _. (total_at more j).branches ≤ (total_at more 0).branches) [
        | inl is ↦ subst (λ (i : ℕ). (total_at more i).branches ≤ (total_at more 0).branches) (sym is) (omega (arith, first_none))
        | inr (inl old) ↦
            let same = ap (λ (x : Total). x.branches) (before j old.0) in
            omega (arith, same, exact.most j old.0, root)
        | inr (inr (inl is)) ↦ subst (λ (i : ℕ). (total_at more i).branches ≤ (total_at more 0).branches) (sym is) (omega (arith, first_none))
        | inr (inr (inr is)) ↦ subst (λ (i : ℕ). (total_at more i).branches ≤ (total_at more 0).branches) (sym is) (omega (arith, second_none))
      ]);
    }
