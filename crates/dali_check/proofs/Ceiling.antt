use Rattle.std.proofs.Common.{◌≡◌, inl, inr, ℕ, zero, suc, ◌+◌, ◌*◌, ◌≤◌, ◌==◌, ℤ, pos, ◌+ℤ◌, ◌*ℤ◌, ◌≤ℤ◌, ◌<ℤ◌, Bool, true, false, ◌&&◌, ◌||◌, not, List, [], ◌∷◌, length, get_or, set, Option, Some, None, sum_by, if◌then◌else◌, refl, ap, sym, ◌∙◌, subst, arith}
use Rattle.std.specs.Int.Signed.{lt_z, le_z}
use Rattle.std.specs.List.{All}
use Rattle.std.proofs.lemmas.Bool.{and_parts, or_cases, cases_Bool, cases_lt, cases_eq}
use Rattle.std.proofs.lemmas.Bool.Decides.{eqb_tells}
use Rattle.std.proofs.lemmas.Int.{ints, clamps}
use Rattle.std.proofs.lemmas.List.{get_or-set_other}
use Rattle.std.proofs.lemmas.List.Elements.{All-head, All-tail}
use Rattle.std.proofs.lemmas.List.Filters.{sum_by-filter_both}
use Rattle.std.proofs.lemmas.List.Sums.{sum_by-cons}
use Rattle.dali_problem.specs.declared.mark.Mark.{Mark}
use Rattle.dali_problem.specs.declared.mark.Mark.TheVariants.{Stranger, Undecided, Chosen, Left}
use Rattle.dali_problem.specs.Sums.{sum_below, sum_over, pick}
use Rattle.dali_problem.specs.Clearing.{Item, Clearing, no_item, worth, effect}
use Rattle.dali_problem.specs.Partial.{mark, is_undecided}
use Rattle.dali_problem.specs.Rules.{is_short, is_negative, is_covered, all_below}
use Rattle.dali_problem.proofs.RuleTests.{undecided_is}
use Rattle.dali_problem.proofs.SetLaws.{is_in, value_in}
use Rattle.dali_problem.proofs.SumLaws.{sum_below_zero, sum_below_add, sum_below_le, sum_below_same, sum_below_scale, sum_over_pos}
use Rattle.dali_problem.specs.Feasible.{has}
use Rattle.dali_tree.specs.declared.fix.Fix.{Fix}
use Rattle.dali_tree.specs.declared.fix.Fix.TheVariants.{Barred, Needed, Safe}
use Rattle.dali_tree.specs.declared.tree.Tree.{Tree}
use Rattle.dali_tree.specs.declared.tree.End.{End}
use Rattle.dali_tree.specs.declared.tree.End.TheOpen.{Tree-F, End-F}
use Rattle.dali_tree.specs.declared.tree.End.TheFolds.{fold-roll-End, fold-roll-Tree, ind-Tree, map-End, map-Tree}
use Rattle.dali_tree.specs.declared.tree.End.TheViews.{roll-End, roll-Tree}
use Rattle.dali_tree.specs.declared.choice.Part.{Part}
use Rattle.dali_tree.specs.declared.choice.Choice.{Choice}
use Rattle.dali_tree.specs.Fits.{AreRising}
use Rattle.dali_tree.specs.Range.{IsInRange}
use Rattle.dali_lagrange.specs.Bound.{sum_of, count_of}
use Rattle.dali_lagrange.specs.Multipliers.{multiplier}
use Rattle.dali_lagrange.specs.Settled.{is_still_at, is_settled}
use Rattle.dali_lagrange.proofs.Regroup.{pick_scale}
use Rattle.dali_lagrange.proofs.SettledLaws.{le_decides, lt_decides}
use Rattle.dali_lagrange.proofs.Zero.{zero_sum_is}
use Rattle.dali_fixes.specs.Fixed.{place_of, becomes, holds, after}
use Rattle.dali_fixes.proofs.Sets.{worth_of}
use Rattle.dali_check.specs.Sides.{opened, when_fixed}
use Rattle.dali_check.specs.Proves.{closes}
use Rattle.dali_check.specs.Lean.{reaches, is_reduced, is_open, is_nearest, is_worked, is_finished, is_led, is_tight, lean_end, lean_tree, tight_end, tight_tree, lean_part}
use Rattle.dali_check.specs.Ends.{lean_ends, tight_ends}
use Rattle.dali_check.specs.Parts.{some_has, value_in_part, bound_of}
use Rattle.dali_check.specs.Allowed.{IsWhole}
use Rattle.dali_check.proofs.AlikeTrees.{Test, at_node}
use Rattle.dali_check.proofs.Entering.{opened_at, opened_past}
use Rattle.dali_check.proofs.Parting.{Apart}
use Rattle.dali_check.proofs.Stands.{closes_is, is_behind}
use Rattle.dali_check.proofs.Summing.{split_pick, apart_head}

false_true : false ≡ true → ⊥
false_true is = cc

-- all places but these members are strangers
record AreAmong (members : List ℕ) (f : List Mark) : Type 0 where
  pub outside : (j : ℕ) → has members j ≡ false → mark f j ≡ Stranger

among_opened : (n : ℕ) (members : List ℕ) → AreAmong members (opened n members)
among_opened n members = record {
  outside = (λ j out. elim (cases_lt j n) as (λ _. mark (opened n members) j ≡ Stranger) [
    | inl within ↦ opened_at n members j within ∙ ap (λ b. if b then Undecided else Stranger) out
    | inr past ↦ opened_past n members j past
  ]);
}

among_set : (members : List ℕ) (f : List Mark) (place : ℕ) (m : Mark) → mark f place ≡ Undecided → AreAmong members f → AreAmong members (set f place m)
among_set members f place m was among = record {
  outside = (λ j out. elim (cases_eq j place) as (λ _. mark (set f place m) j ≡ Stranger) [
    | inl same ↦ absurd (undecided_stranger (sym was ∙ ap (mark f) (sym same) ∙ among.outside j out))
    | inr other ↦ get_or-set_other f place j m Stranger other ∙ among.outside j out
  ]);
}
  where
    undecided_stranger : Undecided ≡ Stranger → ⊥
    undecided_stranger is = cc

fix_undecided : (p : Clearing) (f : List Mark) (fix : Fix) → holds p f fix ≡ true → mark f (place_of fix) ≡ Undecided
unfolding holds
fix_undecided p f (Barred j l) told = undecided_is (mark f j) (and_parts (is_undecided (mark f j)) (is_short p (set f j Chosen) l) told).0
fix_undecided p f (Needed j l) told = undecided_is (mark f j) (and_parts (is_undecided (mark f j)) (is_short p (set f j Left) l) told).0
fix_undecided p f (Safe j) told = undecided_is (mark f j)
    (and_parts (is_undecided (mark f j)) (all_below (λ l. not (is_negative (effect p j l)) || is_covered p f l) (length p.lines)) told).0

among_after : (p : Clearing) (members : List ℕ) (fixes : List Fix) (f g : List Mark) → after p fixes f ≡ Some g → AreAmong members f → AreAmong members g
among_after p members [] f g leads among = subst (AreAmong members) (some_is f g leads) among
  where
    some_is : (f g : List Mark) → Some f ≡ Some g → f ≡ g
    some_is f g is = cc
among_after p members (fix ∷ fixes) f g leads among = elim (cases_Bool (holds p f fix)) as (λ _. AreAmong members g) [
  | inl told ↦
      let next : after p fixes (set f (place_of fix) (becomes fix)) ≡ Some g =
      sym (ap (λ b. if b then after p fixes (set f (place_of fix) (becomes fix)) else None) told) ∙ leads in
      among_after p members fixes (set f (place_of fix) (becomes fix)) g next
      (among_set members f (place_of fix) (becomes fix) (fix_undecided p f fix told) among)
  | inr refused ↦ absurd (none_some g
      (sym (ap (λ b. if b then after p fixes (set f (place_of fix) (becomes fix)) else None) refused) ∙ leads))
]
  where
    none_some : (g : List Mark) → None ≡ Some g → ⊥
    none_some g is = cc

-- with all multipliers 0 the Sum is at most what the members are worth
counted_most : (m : Mark) (b : Bool) (z : ℤ) → (b ≡ false → m ≡ Stranger) → pos 0 ≤ℤ z → count_of m z ≤ℤ pick b z
counted_most m false z outside up =
    let gone : count_of m z ≡ count_of Stranger z = ap (λ k. count_of k z) (outside refl) in
    omega (arith, ints, gone)
counted_most Stranger true z outside up = omega (arith, ints, up)
counted_most Undecided true z outside up = omega (arith, ints, clamps, up)
counted_most Chosen true z outside up = omega (arith, ints, up)
counted_most Left true z outside up = omega (arith, ints, up)

zero_most : (p : Clearing) (members : List ℕ) (f : List Mark) → AreAmong members f → sum_of p f (λ _. 0) ≤ℤ (pos 4096 *ℤ worth_of p (has members))
zero_most p members f among =
    let each = sum_below_le (λ j. count_of (mark f j) (pos 4096 *ℤ pos (worth p j))) (λ j. pick (has members j) (pos 4096 *ℤ pos (worth p j))) (length p.items)
    (λ j below. counted_most (mark f j) (has members j) (pos 4096 *ℤ pos (worth p j)) (among.outside j) (omega (arith, ints))) in
    let scale = sum_below_scale (pos 4096) (λ j. pick (has members j) (pos (worth p j))) (length p.items) in
    let picks = sum_below_same (λ j. pos 4096 *ℤ pick (has members j) (pos (worth p j)))
    (λ j. pick (has members j) (pos 4096 *ℤ pos (worth p j))) (length p.items)
    (λ j below. pick_scale (has members j) (pos 4096) (pos (worth p j))) in
    omega (arith, ints, each, scale, picks, zero_sum_is p f)

-- what the tests of an end tell of its Sum
reaches_tells : (p : Clearing) (u : ℕ) (lam : List (ℕ × ℕ)) (f : List Mark) → reaches p u lam f ≡ true → pos (4096 * u) ≤ℤ sum_of p f (multiplier lam)
unfolding reaches
reaches_tells p u lam f told = (le_decides (pos (4096 * u)) (sum_of p f (multiplier lam))).0 told

closes_tells : (p : Clearing) (u : ℕ) (lam : List (ℕ × ℕ)) (f : List Mark) → closes p u lam f ≡ true → sum_of p f (multiplier lam) <ℤ pos (4096 * (u + 1))
unfolding closes
closes_tells p u lam f told = (lt_decides (sum_of p f (multiplier lam)) (pos (4096 * (u + 1)))).0 told

settled_tells : (p : Clearing) (f : List Mark) (lam : ℕ → ℕ) → is_settled p f lam ≡ true → sum_of p f lam ≤ℤ sum_of p f (λ _. 0)
unfolding is_settled
settled_tells p f lam told = (le_decides (sum_of p f lam) (sum_of p f (λ _. 0))).0
    (and_parts (le_z (sum_of p f lam) (sum_of p f (λ _. 0)))
    (lt_z (sum_of p f lam) (pos 4096) || all_below (is_still_at p f lam) (length p.lines)) told).0

-- a finished end whose bound is u: u is at most what the members are worth, where what is chosen is
end_most : (p : Clearing) (u v : ℕ) (lam : List (ℕ × ℕ)) (f : List Mark) (members : List ℕ) → AreAmong members f →
    pos v ≤ℤ worth_of p (has members) → is_finished p v lam f ≡ true → is_tight p u lam f ≡ true → pos u ≤ℤ worth_of p (has members)
unfolding is_finished is_tight
end_most p u v lam f members among least finished tight =
    let reached = reaches_tells p u lam f (and_parts (reaches p u lam f) (closes p u lam f) tight).0 in
    elim (or_cases (not (reaches p (v + 1) lam f)) (is_worked p lam f && is_open p f) finished) as (λ _. pos u ≤ℤ worth_of p (has members)) [
      | inl closed ↦
          let below = closes_tells p v lam f (sym (closes_is p v lam f) ∙ closed) in
          omega (arith, ints, reached, below, least)
      | inr left ↦
          let worked : is_worked p lam f ≡ true = (and_parts (is_worked p lam f) (is_open p f) left).0 in
          let settled = settled_tells p f (multiplier lam) (and_parts (is_settled p f (multiplier lam)) (is_reduced p f) worked).0 in
          omega (arith, ints, reached, settled, zero_most p members f among)
    ]

led_undecided : (p : Clearing) (u : ℕ) (lam : List (ℕ × ℕ)) (f : List Mark) (place : ℕ) → is_led p u lam f place ≡ true → mark f place ≡ Undecided
unfolding is_led is_nearest
led_undecided p u lam f place told =
    let nearest = (and_parts (reaches p u lam f && is_worked p lam f) (is_nearest p lam f place) told).1 in
    undecided_is (mark f place) (and_parts (is_undecided (mark f place)) (all_below (is_behind p lam f place) (length p.items)) nearest).0

-- two tests of a tree by which u is at most w
record AtMostBy (members : List ℕ) (w : ℤ) (u : ℕ) (lean tight : List Mark → Bool) : Type 0 where
  pub most : (f : List Mark) → AreAmong members f → lean f ≡ true → tight f ≡ true → pos u ≤ℤ w

abbrev EndP : Clearing → ℕ → ℕ → List ℕ → End → Type 0
EndP p u v members e = AtMostBy members (worth_of p (has members)) u (lean_ends p u v e) (tight_ends p u e)

abbrev TreeP : Clearing → ℕ → ℕ → List ℕ → Tree → Type 0
TreeP p u v members t = AtMostBy members (worth_of p (has members)) u (lean_tree p u v t) (tight_tree p u t)

-- the equations of the four folds
lean_end_is : (p : Clearing) (u v : ℕ) (x : End-F End Tree) (f : List Mark) →
    lean_ends p u v (roll-End x) f ≡ lean_end p u v (map-End End Tree Test Test (lean_ends p u v) (lean_tree p u v) x) f
lean_end_is p u v x f = ap (λ test. test f) (fold-roll-End Test Test (lean_end p u v) (at_node p) x)

tight_end_is : (p : Clearing) (u : ℕ) (x : End-F End Tree) (f : List Mark) →
    tight_ends p u (roll-End x) f ≡ tight_end p u (map-End End Tree Test Test (tight_ends p u) (tight_tree p u) x) f
tight_end_is p u x f = ap (λ test. test f) (fold-roll-End Test Test (tight_end p u) (at_node p) x)

lean_tree_is : (p : Clearing) (u v : ℕ) (x : Tree-F End Tree) (f : List Mark) →
    lean_tree p u v (roll-Tree x) f ≡ at_node p (map-Tree End Tree Test Test (lean_ends p u v) (lean_tree p u v) x) f
lean_tree_is p u v x f = ap (λ test. test f) (fold-roll-Tree Test Test (lean_end p u v) (at_node p) x)

tight_tree_is : (p : Clearing) (u : ℕ) (x : Tree-F End Tree) (f : List Mark) →
    tight_tree p u (roll-Tree x) f ≡ at_node p (map-Tree End Tree Test Test (tight_ends p u) (tight_tree p u) x) f
tight_tree_is p u x f = ap (λ test. test f) (fold-roll-Tree Test Test (tight_end p u) (at_node p) x)

ends_most : (p : Clearing) (u v : ℕ) (members : List ℕ) → pos v ≤ℤ worth_of p (has members) →
    (y : End-F ((e : End) × EndP p u v members e) ((t : Tree) × TreeP p u v members t)) →
    EndP p u v members (roll-End (map-End _ _ End Tree (λ e. e.0) (λ t. t.0) y))
ends_most p u v members least (End-F.Bound lam) = record {
  most = (λ f among lean tight. end_most p u v lam f members among least
      (sym (lean_end_is p u v (End-F.Bound lam) f) ∙ lean) (sym (tight_end_is p u (End-F.Bound lam) f) ∙ tight));
}
ends_most p u v members least (End-F.Short line) = record {
  most = (λ f among lean tight. absurd (false_true (sym (tight_end_is p u (End-F.Short line) f) ∙ tight)));
}
ends_most p u v members least (End-F.Branch place lam inside outside) = record {
  most = (λ f among lean tight.
      let both = and_parts (is_led p u lam f place && lean_tree p u v inside.0 (set f place Chosen)) (lean_tree p u v outside.0 (set f place Left))
      (sym (lean_end_is p u v (End-F.Branch place lam inside.0 outside.0) f) ∙ lean) in
      let first = and_parts (is_led p u lam f place) (lean_tree p u v inside.0 (set f place Chosen)) both.0 in
      let was = led_undecided p u lam f place first.0 in
      elim (or_cases (tight_tree p u inside.0 (set f place Chosen)) (tight_tree p u outside.0 (set f place Left))
      (sym (tight_end_is p u (End-F.Branch place lam inside.0 outside.0) f) ∙ tight)) as (λ _. pos u ≤ℤ worth_of p (has members)) [
        | inl there ↦ inside.1.most (set f place Chosen) (among_set members f place Chosen was among) first.1 there
        | inr there ↦ outside.1.most (set f place Left) (among_set members f place Left was among) both.1 there
      ]);
}

fixed_most : (p : Clearing) (u : ℕ) (members : List ℕ) (w : ℤ) (fixes : List Fix) (lean tight : List Mark → Bool) (f : List Mark) (to : Option (List Mark)) →
    AtMostBy members w u lean tight → AreAmong members f → after p fixes f ≡ to → when_fixed to lean ≡ true → when_fixed to tight ≡ true → pos u ≤ℤ w
fixed_most p u members w fixes lean tight f None by among leads held told = absurd (false_true told)
fixed_most p u members w fixes lean tight f (Some g) by among leads held told = by.most g (among_after p members fixes f g leads among) held told

trees_most : (p : Clearing) (u v : ℕ) (members : List ℕ) → (y : Tree-F ((e : End) × EndP p u v members e) ((t : Tree) × TreeP p u v members t)) →
    TreeP p u v members (roll-Tree (map-Tree _ _ End Tree (λ e. e.0) (λ t. t.0) y))
trees_most p u v members y = record {
  most = (λ f among lean tight. fixed_most p u members (worth_of p (has members)) y.fixes (lean_ends p u v y.end.0) (tight_ends p u y.end.0) f (after p y.fixes f)
      y.end.1 among refl
      (sym (lean_tree_is p u v (map-Tree _ _ End Tree (λ e. e.0) (λ t. t.0) y) f) ∙ lean)
      (sym (tight_tree_is p u (map-Tree _ _ End Tree (λ e. e.0) (λ t. t.0) y) f) ∙ tight));
}

tree_most : (p : Clearing) (u v : ℕ) (members : List ℕ) → pos v ≤ℤ worth_of p (has members) → (tree : Tree) → TreeP p u v members tree
tree_most p u v members least = ind-Tree (EndP p u v members) (TreeP p u v members)
    (λ x y is. subst (λ z. EndP p u v members (roll-End z)) is (ends_most p u v members least y))
    (λ x y is. subst (λ z. TreeP p u v members (roll-Tree z)) is (trees_most p u v members y))

-- what is chosen in a part is worth at most its members
in_has : (j : ℕ) (xs : List ℕ) → is_in j xs ≡ has xs j
in_has j [] = refl
in_has j (x ∷ xs) = ap (λ b. (x == j) || b) (in_has j xs)

chosen_most : (p : Clearing) (set : List ℕ) (part : Part) → AreRising (length p.items) part.members →
    pos (value_in_part p set part) ≤ℤ worth_of p (has part.members)
chosen_most p set part rising =
    let all = value_in p part.members (record { rising = rising.rising; in_range = rising.in_range }) in
    let same = sum_below_same (λ j. pick (is_in j part.members) (pos (worth p j))) (λ j. pick (has part.members j) (pos (worth p j))) (length p.items)
    (λ j below. ap (λ b. pick b (pos (worth p j))) (in_has j part.members)) in
    let both = sum_by-filter_both (has set) (λ (j : ℕ). not (has set j)) (λ _. refl) (worth p) part.members in
    omega (arith, ints, all, same, both)

-- so is the bound of a lean part
lean_most : (p : Clearing) (set : List ℕ) (part : Part) → AreRising (length p.items) part.members →
    lean_part p part (value_in_part p set part) ≡ true → pos part.bound ≤ℤ worth_of p (has part.members)
lean_most p set part rising told =
    let v : ℕ = value_in_part p set part in
    let start : List Mark = opened (length p.items) part.members in
    let least = chosen_most p set part rising in
    let both = and_parts (lean_tree p part.bound v part.tree start) (part.bound == v || tight_tree p part.bound part.tree start) told in
    elim (or_cases (part.bound == v) (tight_tree p part.bound part.tree start) both.1) as (λ _. pos part.bound ≤ℤ worth_of p (has part.members)) [
      | inl equal ↦ elim (eqb_tells part.bound v) as (λ _. pos part.bound ≤ℤ worth_of p (has part.members)) [
        | inl same ↦ omega (arith, ints, same.1, least)
        | inr other ↦ absurd (false_true (sym other.0 ∙ equal))
      ]
      | inr tight ↦ (tree_most p part.bound v part.members least part.tree).most start (among_opened (length p.items) part.members) both.0 tight
    ]

-- the bounds of lean parts that are apart are at most what all their members are worth
parts_most : (p : Clearing) (set : List ℕ) (parts : List Part) → All (λ part. AreRising (length p.items) part.members) parts →
    Apart (λ (part : Part). has part.members) parts → All (λ part. lean_part p part (value_in_part p set part) ≡ true) parts →
    pos (bound_of parts) ≤ℤ worth_of p (some_has parts)
parts_most p set [] rising apart lean =
    let none = sum_below_le (λ _. pos 0) (λ j. pick (some_has [] j) (pos (worth p j))) (length p.items) (λ j below. omega (arith, ints)) in
    omega (arith, ints, none, sum_below_zero (length p.items))
parts_most p set (q ∷ parts) rising apart lean =
    let first = lean_most p set q (All-head (λ (part : Part). AreRising (length p.items) part.members) q parts rising)
    (All-head (λ (part : Part). lean_part p part (value_in_part p set part) ≡ true) q parts lean) in
    let rest = parts_most p set parts (All-tail (λ (part : Part). AreRising (length p.items) part.members) q parts rising)
    (λ i k d before within. apart (suc i) (suc k) d (omega arith) (omega arith))
    (All-tail (λ (part : Part). lean_part p part (value_in_part p set part) ≡ true) q parts lean) in
    let split = sum_below_same (λ j. pick (has q.members j || some_has parts j) (pos (worth p j)))
    (λ j. pick (has q.members j) (pos (worth p j)) +ℤ pick (some_has parts j) (pos (worth p j))) (length p.items)
    (λ j below. split_pick true (has q.members j) (some_has parts j) (pos (worth p j)) (apart_head q parts apart j)) in
    let joined = sum_below_add (λ j. pick (has q.members j) (pos (worth p j))) (λ j. pick (some_has parts j) (pos (worth p j))) (length p.items) in
    let bounds : bound_of (q ∷ parts) ≡ q.bound + bound_of parts = sum_by-cons (λ (part : Part). part.bound) q parts in
    omega (arith, ints, first, rest, split, joined, bounds)

-- the values of all items
sum_below_front : (f : ℕ → ℤ) (n : ℕ) → sum_below f (suc n) ≡ f 0 +ℤ sum_below (λ k. f (suc k)) n
sum_below_front f zero = omega (arith, ints)
sum_below_front f (suc n) = omega (arith, ints, sum_below_front f n)

values_are : (items : List Item) → sum_below (λ j. pos (get_or items j no_item).value) (length items) ≡ sum_over (λ (item : Item). pos item.value) items
values_are [] = refl
values_are (item ∷ items) =
    sum_below_front (λ j. pos (get_or (item ∷ items) j no_item).value) (length items) ∙ ap (λ z. pos item.value +ℤ z) (values_are items)

pick_most : (b : Bool) (z : ℤ) → pos 0 ≤ℤ z → pick b z ≤ℤ z
pick_most true z up = omega (arith, ints, up)
pick_most false z up = omega (arith, ints, up)

-- the bounds of lean parts of a partition are at most the values of all items
pub whole_most : (p : Clearing) (choice : Choice) → IsInRange (length p.items) (length p.lines) choice → IsWhole p choice →
    All (λ part. lean_part p part (value_in_part p choice.places part) ≡ true) choice.parts → bound_of choice.parts ≤ sum_by (λ (item : Item). item.value) p.items
whole_most p choice ranges whole lean =
    let most = parts_most p choice.places choice.parts (λ k d within. (ranges.parts k d within).members) whole.partition.apart lean in
    let each = sum_below_le (λ j. pick (some_has choice.parts j) (pos (worth p j))) (λ j. pos (worth p j)) (length p.items)
    (λ j below. pick_most (some_has choice.parts j) (pos (worth p j)) (omega (arith, ints))) in
    let value = sum_over_pos (λ (item : Item). item.value) p.items in
    omega (arith, ints, most, each, values_are p.items, value)
