use Rattle.std.proofs.Common.{◌≡◌, ◌≢◌, inl, inr, ℕ, ◌+◌, ◌<◌, ◌≤◌, max, List, length, set, refl, ap, sym, ◌∙◌, subst, arith}
use Rattle.std.proofs.lemmas.Bool.{cases_eq}
use Rattle.std.proofs.lemmas.List.{get_or-set_same, get_or-set_other, length-set}
use Rattle.dali_search.specs.declared.node.Node.{Node}
use Rattle.dali_search.specs.declared.node.NodeEnd.{NodeEnd}
use Rattle.dali_search.specs.declared.node.NodeEnd.TheVariants.{Open, Pruned, Branched}
use Rattle.dali_search.specs.declared.node.Total.{Total}
use Rattle.dali_search.specs.Nodes.{node_at, total_at, no_total, total_of, LinksDown, IsSideOf, AreLinked, AreTotals, AreTotalsBut}

-- the totals while they are made exact, from node `from` up to node `at`
pub record Climbs (nodes : List Node) (start totals : List Total) (from at : ℕ) : Type 0 where
  pub within : at ≤ from
  pub size : length totals ≡ length nodes
  pub each : (j : ℕ) → j < length nodes → j ≢ at → total_at totals j ≡ total_of totals (node_at nodes j).end
  pub fewer : (total_of totals (node_at nodes at).end).branches ≡ (total_at totals at).branches + 1
  pub lower_here : (total_of totals (node_at nodes at).end).greatest ≤ (total_at start at).greatest
  pub lower : (j : ℕ) → (total_at totals j).greatest ≤ (total_at start j).greatest
  pub same : (j : ℕ) → j ≤ at → total_at totals j ≡ total_at start j
  pub most : (j : ℕ) → j < length nodes → (total_at totals j).branches ≤ (total_at start 0).branches + 1

pub climbs_start : (nodes : List Node) (start : List Total) (from : ℕ) → AreTotalsBut nodes start from → Climbs nodes start start from from
climbs_start nodes start from but = record {
  within = omega arith;
  size = but.size;
  each = but.each;
  fewer = but.fewer;
  lower_here = but.lower;
  lower = (λ j. omega arith);
  same = (λ j below. refl);
  most = (λ j below. omega (arith, but.most j below));
}

total_same : (totals : List Total) (at : ℕ) (t : Total) → at < length totals → total_at (set totals at t) at ≡ t
total_same totals at t within = get_or-set_same totals at t no_total within

total_other : (totals : List Total) (at j : ℕ) (t : Total) → j ≢ at → total_at (set totals at t) j ≡ total_at totals j
total_other totals at j t off = get_or-set_other totals at j t no_total off

-- node k isn't a side of a node with this end
abbrev OffSide : ℕ → NodeEnd → Type 0
OffSide k (Open lam bound) = Unit {0}
OffSide k (Pruned line) = Unit {0}
OffSide k (Branched place lam inside outside) = (inside ≢ k) × (outside ≢ k)

of_other : (totals : List Total) (at : ℕ) (t : Total) (end : NodeEnd) → OffSide at end → total_of (set totals at t) end ≡ total_of totals end
of_other totals at t (Open lam bound) off = refl
of_other totals at t (Pruned line) off = refl
of_other totals at t (Branched place lam inside outside) off =
    let inner = total_other totals at inside t off.0 in
    let outer = total_other totals at outside t off.1 in
    ap (λ (x : Total). record { greatest = max x.greatest (total_at (set totals at t) outside).greatest; branches = x.branches + (total_at (set totals at t) outside).branches + 1 }) inner
    ∙ ap (λ (x : Total). record { greatest = max (total_at totals inside).greatest x.greatest; branches = (total_at totals inside).branches + x.branches + 1 }) outer

-- a node is a side of the one above it alone
off_others : (nodes : List Node) (j at : ℕ) (end : NodeEnd) → LinksDown nodes j end → (node_at nodes at).above ≢ j → OffSide at end
off_others nodes j at (Open lam bound) down off = tt
off_others nodes j at (Pruned line) down off = tt
off_others nodes j at (Branched place lam inside outside) down off =
    (λ is. off (sym (ap (λ (k : ℕ). (node_at nodes k).above) is) ∙ down.3), λ is. off (sym (ap (λ (k : ℕ). (node_at nodes k).above) is) ∙ down.4))

-- nor is it a side of itself or of one behind it
off_behind : (nodes : List Node) (j at : ℕ) (end : NodeEnd) → LinksDown nodes j end → at ≤ j → OffSide at end
off_behind nodes j at (Open lam bound) down before = tt
off_behind nodes j at (Pruned line) down before = tt
off_behind nodes j at (Branched place lam inside outside) down before =
    (λ is. absurd (omega (arith, down.0, down.1, is)), λ is. absurd (omega (arith, down.0, down.1, is)))

side_raised : (nodes : List Node) (totals : List Total) (j at : ℕ) (t : Total) (end : NodeEnd) → at < length totals → LinksDown nodes j end → IsSideOf at end →
    t.branches ≡ (total_at totals at).branches + 1 →
    (total_of (set totals at t) end).branches ≡ (total_of totals end).branches + 1
side_raised nodes totals j at t (Open lam bound) within down is more = absurd is
side_raised nodes totals j at t (Pruned line) within down is more = absurd is
side_raised nodes totals j at t (Branched place lam inside outside) within down is more = elim is as (λ _. (total_of (set totals at t) (Branched place lam inside outside)).branches ≡ (total_of totals (Branched place lam inside outside)).branches + 1) [
  | inl here ↦
      let inner : (total_at (set totals at t) inside).branches ≡ (total_at totals inside).branches + 1 =
      ap (λ (k : ℕ). (total_at (set totals at t) k).branches) here ∙ ap (λ (x : Total). x.branches) (total_same totals at t within) ∙ more
      ∙ ap (λ (k : ℕ). (total_at totals k).branches + 1) (sym here) in
      let outer : (total_at (set totals at t) outside).branches ≡ (total_at totals outside).branches =
      ap (λ (x : Total). x.branches) (total_other totals at outside t (λ same. absurd (omega (arith, down.1, here, same)))) in
      omega (arith, inner, outer)
  | inr here ↦
      let outer : (total_at (set totals at t) outside).branches ≡ (total_at totals outside).branches + 1 =
      ap (λ (k : ℕ). (total_at (set totals at t) k).branches) here ∙ ap (λ (x : Total). x.branches) (total_same totals at t within) ∙ more
      ∙ ap (λ (k : ℕ). (total_at totals k).branches + 1) (sym here) in
      let inner : (total_at (set totals at t) inside).branches ≡ (total_at totals inside).branches =
      ap (λ (x : Total). x.branches) (total_other totals at inside t (λ same. absurd (omega (arith, down.1, here, same)))) in
      omega (arith, inner, outer)
]

-- with no total above what it was, none above is
of_lower : (start totals : List Total) (end : NodeEnd) → ((j : ℕ) → (total_at totals j).greatest ≤ (total_at start j).greatest) →
    (total_of totals end).greatest ≤ (total_of start end).greatest
of_lower start totals (Open lam bound) lower = omega arith
of_lower start totals (Pruned line) lower = omega arith
of_lower start totals (Branched place lam inside outside) lower = omega (arith, lower inside, lower outside)

set_lower : (start totals : List Total) (at : ℕ) (t : Total) → at < length totals → t.greatest ≤ (total_at start at).greatest →
    ((j : ℕ) → (total_at totals j).greatest ≤ (total_at start j).greatest) → (j : ℕ) → (total_at (set totals at t) j).greatest ≤ (total_at start j).greatest
set_lower start totals at t within here lower j = elim (cases_eq j at) as (λ _. (total_at (set totals at t) j).greatest ≤ (total_at start j).greatest) [
  | inl same ↦ subst (λ (k : ℕ). (total_at (set totals at t) k).greatest ≤ (total_at start k).greatest) (sym same)
      (subst (λ (x : Total). x.greatest ≤ (total_at start at).greatest) (sym (total_same totals at t within)) here)
  | inr other ↦ subst (λ (x : Total). x.greatest ≤ (total_at start j).greatest) (sym (total_other totals at j t other)) (lower j)
]

set_most : (nodes : List Node) (totals : List Total) (at m : ℕ) (t : Total) → at < length totals → t.branches ≤ m →
    ((j : ℕ) → j < length nodes → (total_at totals j).branches ≤ m) → (j : ℕ) → j < length nodes → (total_at (set totals at t) j).branches ≤ m
set_most nodes totals at m t within here most j below = elim (cases_eq j at) as (λ _. (total_at (set totals at t) j).branches ≤ m) [
  | inl same ↦ subst (λ (k : ℕ). (total_at (set totals at t) k).branches ≤ m) (sym same)
      (subst (λ (x : Total). x.branches ≤ m) (sym (total_same totals at t within)) here)
  | inr other ↦ subst (λ (x : Total). x.branches ≤ m) (sym (total_other totals at j t other)) (most j below)
]

-- how the total of a node is exact after node `at` is
set_each : (nodes : List Node) (totals : List Total) (at j : ℕ) → at < length totals → OffSide at (node_at nodes j).end →
    (j ≢ at → total_at totals j ≡ total_of totals (node_at nodes j).end) →
    total_at (set totals at (total_of totals (node_at nodes at).end)) j ≡ total_of (set totals at (total_of totals (node_at nodes at).end)) (node_at nodes j).end
set_each nodes totals at j within off was =
    let t = total_of totals (node_at nodes at).end in
    elim (cases_eq j at) as (λ _. total_at (set totals at t) j ≡ total_of (set totals at t) (node_at nodes j).end) [
      | inl same ↦
          ap (total_at (set totals at t)) same ∙ total_same totals at t within
          ∙ ap (λ (k : ℕ). total_of totals (node_at nodes k).end) (sym same)
          ∙ sym (of_other totals at t (node_at nodes j).end off)
      | inr other ↦ total_other totals at j t other ∙ was other ∙ sym (of_other totals at t (node_at nodes j).end off)
    ]

pub climb_step : (nodes : List Node) (start totals : List Total) (from at : ℕ) → AreLinked nodes → AreTotalsBut nodes start from → from < length nodes → 0 < at →
    Climbs nodes start totals from at → Climbs nodes start (set totals at (total_of totals (node_at nodes at).end)) from (node_at nodes at).above
climb_step nodes start totals from at linked but inside up so_far =
    let a : ℕ = (node_at nodes at).above in
    let t : Total = total_of totals (node_at nodes at).end in
    let before : a < at = linked.before at up (omega (arith, so_far.within)) in
    let within : at < length totals = omega (arith, so_far.within, so_far.size) in
    let lower = set_lower start totals at t within so_far.lower_here so_far.lower in
    let was : total_at totals a ≡ total_of totals (node_at nodes a).end = so_far.each a (omega (arith, so_far.within)) (omega arith) in
    let was_start : total_at start a ≡ total_of start (node_at nodes a).end = but.each a (omega (arith, so_far.within)) (omega (arith, so_far.within)) in
    let still : total_at (set totals at t) a ≡ total_at totals a = total_other totals at a t (omega arith) in
    let raised = side_raised nodes totals a at t (node_at nodes a).end within (linked.down a (omega (arith, so_far.within))) (linked.up at up (omega (arith, so_far.within))) so_far.fewer in
    record {
      within = omega (arith, so_far.within);
      size = length-set totals at t ∙ so_far.size;
      each = (λ j below off. set_each nodes totals at j within
          (off_others nodes j at (node_at nodes j).end (linked.down j below) (λ is. off (sym is))) (so_far.each j below));
      fewer = raised ∙ ap (λ (x : Total). x.branches + 1) (sym was ∙ sym still);
      lower_here = subst (λ (x : Total). (total_of (set totals at t) (node_at nodes a).end).greatest ≤ x.greatest) (sym was_start)
          (of_lower start (set totals at t) (node_at nodes a).end lower);
      lower = lower;
      same = (λ j below. total_other totals at j t (omega arith) ∙ so_far.same j (omega arith));
      most = set_most nodes totals at ((total_at start 0).branches + 1) t within
          (let same = ap (λ (x : Total). x.branches) (so_far.same at (omega arith)) in
          omega (arith, so_far.fewer, same, but.most at (omega (arith, so_far.within)))) so_far.most;
    }

-- at the root all are exact
pub record Climbed (nodes : List Node) (start totals : List Total) : Type 0 where
  pub exact : AreTotals nodes totals
  pub lower : (total_at totals 0).greatest ≤ (total_at start 0).greatest
  pub more : (total_at totals 0).branches ≡ (total_at start 0).branches + 1

pub climb_end : (nodes : List Node) (start totals : List Total) (from : ℕ) → AreLinked nodes → Climbs nodes start totals from 0 →
    Climbed nodes start (set totals 0 (total_of totals (node_at nodes 0).end))
climb_end nodes start totals from linked so_far =
    let t : Total = total_of totals (node_at nodes 0).end in
    let within : 0 < length totals = omega (arith, linked.some, so_far.size) in
    let root : total_at (set totals 0 t) 0 ≡ t = total_same totals 0 t within in
    let branches : (total_at (set totals 0 t) 0).branches ≡ (total_at start 0).branches + 1 =
    ap (λ (x : Total). x.branches) root ∙ so_far.fewer ∙ ap (λ (x : Total). x.branches + 1) (so_far.same 0 (omega arith)) in
    record {
      exact = record {
        size = length-set totals 0 t ∙ so_far.size;
        each = (λ j below. set_each nodes totals 0 j within (off_behind nodes j 0 (node_at nodes j).end (linked.down j below) (omega arith)) (so_far.each j below));
        most = (λ j below. subst (λ (m : ℕ). (total_at (set totals 0 t) j).branches ≤ m) (sym branches)
            (set_most nodes totals 0 ((total_at start 0).branches + 1) t within
            (omega (arith, sym (ap (λ (x : Total). x.branches) root) ∙ branches)) so_far.most j below));
      };
      lower = subst (λ (x : Total). x.greatest ≤ (total_at start 0).greatest) (sym root) so_far.lower_here;
      more = branches;
    }
