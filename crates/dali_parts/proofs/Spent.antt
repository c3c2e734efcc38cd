use Rattle.std.proofs.Common.{◌≡◌, inl, inr, ℕ, zero, suc, ◌+◌, ◌*◌, ◌^◌, ◌<◌, ◌≤◌, ℤ, pos, ◌+ℤ◌, ◌≤ℤ◌, Bool, true, false, ◌&&◌, ◌||◌, List, [], ◌∷◌, length, get_or, set, cond, Option, Some, None, sum_by, refl, ap, sym, ◌∙◌, subst, add-one, arith}
use Rattle.std.specs.List.{All, AllPairs, filter}
use Rattle.std.proofs.Math.Nat.{pow-suc, pow-le-pow_right}
use Rattle.std.proofs.lemmas.Bool.{cases_Bool, cases_lt, and_parts}
use Rattle.std.proofs.lemmas.Int.{ints}
use Rattle.std.proofs.lemmas.Nat.{pow_pos, pow-add}
use Rattle.std.proofs.lemmas.List.Elements.{All-head, All-tail}
use Rattle.std.proofs.lemmas.List.Sums.{sum_by-cons}
use Rattle.dali_problem.specs.declared.mark.Mark.{Mark}
use Rattle.dali_problem.specs.declared.mark.Mark.TheVariants.{Chosen, Left}
use Rattle.dali_problem.specs.Clearing.{Clearing, worth}
use Rattle.dali_problem.specs.Feasible.{ArePlaces, value_of, has}
use Rattle.dali_problem.specs.Partial.{mark, is_undecided}
use Rattle.dali_problem.specs.Sums.{sum_below, sum_over, pick}
use Rattle.dali_problem.proofs.RuleTests.{undecided_is}
use Rattle.dali_problem.proofs.SetLaws.{is_in, sum_over_in, value_in}
use Rattle.dali_problem.proofs.SumLaws.{sum_below_zero, sum_below_add, sum_below_same, sum_below_le, sum_over_pos}
use Rattle.dali_tree.specs.declared.fix.Fix.{Fix}
use Rattle.dali_tree.specs.declared.tree.Tree.{Tree}
use Rattle.dali_tree.specs.declared.tree.End.{End}
use Rattle.dali_tree.specs.declared.tree.End.TheOpen.{Tree-F, End-F}
use Rattle.dali_tree.specs.declared.tree.End.TheFolds.{fold-roll-End, fold-roll-Tree, ind-Tree, map-End, map-Tree}
use Rattle.dali_tree.specs.declared.tree.End.TheViews.{roll-End, roll-Tree}
use Rattle.dali_tree.specs.declared.choice.Part.{Part}
use Rattle.dali_tree.specs.Fits.{AreRising}
use Rattle.dali_tree.specs.Tree.{count_step, branch_count}
use Rattle.dali_tree.specs.Ends.{end_count}
use Rattle.dali_fixes.specs.Fixed.{after}
use Rattle.dali_reduce.specs.Reduced.{undecided_count}
use Rattle.dali_reduce.proofs.Taken.{taken_counted}
use Rattle.dali_check.specs.Sides.{when_fixed}
use Rattle.dali_check.specs.Parts.{some_has, ArePartition, value_in_part, branchings_of}
use Rattle.dali_check.specs.Proves.{proves_end, proves_tree}
use Rattle.dali_check.specs.Ends.{proves_ends}
use Rattle.dali_check.proofs.AlikeTrees.{Test, at_node}
use Rattle.dali_check.proofs.Parting.{Apart}
use Rattle.dali_check.proofs.Summing.{split_pick, apart_head}
use Rattle.dali_search.proofs.Members.{count_set}
use Rattle.dali_restrict.proofs.Pieces.{any_is}

-- What parts have together: branches, values and members.

false_true : false ≡ true → ⊥
false_true is = cc

-- a tree that proves has fewer branches than there are sets of the undecided places
record EndFew (p : Clearing) (u : ℕ) (e : End) : Type 0 where
  few : (f : List Mark) → proves_ends p u e f ≡ true → end_count e + 1 ≤ 2 ^ undecided_count f

pub record TreeFew (p : Clearing) (u : ℕ) (t : Tree) : Type 0 where
  pub few : (f : List Mark) → proves_tree p u t f ≡ true → branch_count t + 1 ≤ 2 ^ undecided_count f

ends_few : (p : Clearing) (u : ℕ) → (y : End-F ((e : End) × EndFew p u e) ((t : Tree) × TreeFew p u t)) → EndFew p u (roll-End (map-End _ _ End Tree (λ e. e.0) (λ t. t.0) y))
ends_few p u (End-F.Bound lam) = record {
  few = (λ f told.
      let none : end_count (roll-End (End-F.Bound lam)) ≡ 0 = fold-roll-End ℕ ℕ count_step (λ node. node.end) (End-F.Bound lam) in
      omega (arith, none, pow_pos (undecided_count f)));
}
ends_few p u (End-F.Short line) = record {
  few = (λ f told.
      let none : end_count (roll-End (End-F.Short line)) ≡ 0 = fold-roll-End ℕ ℕ count_step (λ node. node.end) (End-F.Short line) in
      omega (arith, none, pow_pos (undecided_count f)));
}
ends_few p u (End-F.Branch place lam inside outside) = record {
  few = (λ f told.
      let count : end_count (roll-End (End-F.Branch place lam inside.0 outside.0)) ≡ branch_count inside.0 + branch_count outside.0 + 1 =
      fold-roll-End ℕ ℕ count_step (λ node. node.end) (End-F.Branch place lam inside.0 outside.0) in
      let both = and_parts (is_undecided (mark f place) && proves_tree p u inside.0 (set f place Chosen)) (proves_tree p u outside.0 (set f place Left))
      (sym (ap (λ (test : Test). test f) (fold-roll-End Test Test (proves_end p u) (at_node p) (End-F.Branch place lam inside.0 outside.0))) ∙ told) in
      let first = and_parts (is_undecided (mark f place)) (proves_tree p u inside.0 (set f place Chosen)) both.0 in
      let was = undecided_is (mark f place) first.0 in
      let one = inside.1.few (set f place Chosen) first.1 in
      let two = outside.1.few (set f place Left) both.1 in
      let chosen = count_set f place Chosen was refl in
      let left = count_set f place Left was refl in
      let less : ℕ = undecided_count (set f place Chosen) in
      let same : undecided_count (set f place Left) ≡ less = omega (arith, chosen, left) in
      let power_left : 2 ^ undecided_count (set f place Left) ≡ 2 ^ less = ap (λ k. 2 ^ k) same in
      let power : 2 ^ undecided_count f ≡ 2 ^ less + 2 ^ less = ap (λ k. 2 ^ k) (sym chosen ∙ add-one less) ∙ pow-suc 2 less ∙ omega arith in
      omega (arith, count, one, two, power_left, power));
}

trees_few : (p : Clearing) (u : ℕ) → (y : Tree-F ((e : End) × EndFew p u e) ((t : Tree) × TreeFew p u t)) → TreeFew p u (roll-Tree (map-Tree _ _ End Tree (λ e. e.0) (λ t. t.0) y))
trees_few p u y = record {
  few = (λ f told. led f (after p y.fixes f) refl
      (sym (ap (λ (test : Test). test f) (fold-roll-Tree Test Test (proves_end p u) (at_node p) (map-Tree _ _ End Tree (λ e. e.0) (λ t. t.0) y))) ∙ told));
}
  where
    led : (f : List Mark) (to : Option (List Mark)) → after p y.fixes f ≡ to → when_fixed to (proves_ends p u y.end.0) ≡ true →
        branch_count (roll-Tree (map-Tree _ _ End Tree (λ e. e.0) (λ t. t.0) y)) + 1 ≤ 2 ^ undecided_count f
    led f None leads told = absurd (false_true told)
    led f (Some g) leads told =
        let count : branch_count (roll-Tree (map-Tree _ _ End Tree (λ e. e.0) (λ t. t.0) y)) ≡ end_count y.end.0 = fold-roll-Tree ℕ ℕ count_step (λ node. node.end) (map-Tree _ _ End Tree (λ e. e.0) (λ t. t.0) y) in
        let few = y.end.1.few g told in
        let least : undecided_count g ≤ undecided_count f = omega (arith, taken_counted p y.fixes f g leads) in
        let power : 2 ^ undecided_count g ≤ 2 ^ undecided_count f = pow-le-pow_right {n = 2} (omega arith) {i = undecided_count g} {j = undecided_count f} least in
        omega (arith, count, few, power)

pub tree_few : (p : Clearing) (u : ℕ) (tree : Tree) → TreeFew p u tree
tree_few p u = ind-Tree (EndFew p u) (TreeFew p u)
    (λ x y is. subst (λ z. EndFew p u (roll-End z)) is (ends_few p u y))
    (λ x y is. subst (λ z. TreeFew p u (roll-Tree z)) is (trees_few p u y))

-- so have several together
mul_low : (x y : ℕ) → 1 ≤ x → 1 ≤ y → x + y ≤ x * y + 1
mul_low zero y one two = absurd (omega (arith, one))
mul_low (suc zero) y one two = omega arith
mul_low (suc (suc x)) y one two =
    let rest = mul_low (suc x) y (omega arith) two in
    let more : suc (suc x) * y ≡ suc x * y + y = omega arith in
    omega (arith, rest, more, two)

abbrev pub members_of : List Part → ℕ
members_of parts = sum_by (λ (part : Part). length part.members) parts

abbrev pub FewBranches : Part → Type 0
FewBranches part = branch_count part.tree + 1 ≤ 2 ^ length part.members

cons_power : (q : Part) (parts : List Part) → 2 ^ members_of (q ∷ parts) ≡ 2 ^ length q.members * 2 ^ members_of parts
cons_power q parts = ap (λ k. 2 ^ k) (sum_by-cons (λ (part : Part). length part.members) q parts) ∙ pow-add 2 (length q.members) (members_of parts)

pub parts_few : (parts : List Part) → All FewBranches parts → branchings_of parts + 1 ≤ 2 ^ members_of parts
parts_few [] few = omega arith
parts_few (q ∷ parts) few =
    let first = All-head FewBranches q parts few in
    let rest = parts_few parts (All-tail FewBranches q parts few) in
    let count = sum_by-cons (λ (part : Part). branch_count part.tree) q parts in
    let low = mul_low (2 ^ length q.members) (2 ^ members_of parts) (omega (arith, pow_pos (length q.members))) (omega (arith, pow_pos (members_of parts))) in
    omega (arith, first, rest, count, low, cons_power q parts)

-- fewer, where one has fewer
pub parts_fewer : (parts : List Part) (k : ℕ) (d : Part) → All FewBranches parts → k < length parts → branch_count (get_or parts k d).tree + 1 < 2 ^ length (get_or parts k d).members →
    branchings_of parts + 1 < 2 ^ members_of parts
parts_fewer [] k d few within less = absurd (omega (arith, within))
parts_fewer (q ∷ parts) zero d few within less =
    let rest = parts_few parts (All-tail FewBranches q parts few) in
    let count = sum_by-cons (λ (part : Part). branch_count part.tree) q parts in
    let low = mul_low (2 ^ length q.members) (2 ^ members_of parts) (omega (arith, pow_pos (length q.members))) (omega (arith, pow_pos (members_of parts))) in
    omega (arith, less, rest, count, low, cons_power q parts)
parts_fewer (q ∷ parts) (suc k) d few within less =
    let first = All-head FewBranches q parts few in
    let rest = parts_fewer parts k d (All-tail FewBranches q parts few) (omega (arith, within)) less in
    let count = sum_by-cons (λ (part : Part). branch_count part.tree) q parts in
    let low = mul_low (2 ^ length q.members) (2 ^ members_of parts) (omega (arith, pow_pos (length q.members))) (omega (arith, pow_pos (members_of parts))) in
    omega (arith, first, rest, count, low, cons_power q parts)

-- sums over parts that are apart
over_same : (f g : Part → ℤ) (parts : List Part) → All (λ part. f part ≡ g part) parts → sum_over f parts ≡ sum_over g parts
over_same f g [] same = refl
over_same f g (q ∷ parts) same =
    ap (λ z. z +ℤ sum_over f parts) (All-head (λ (part : Part). f part ≡ g part) q parts same)
    ∙ ap (λ z. g q +ℤ z) (over_same f g parts (All-tail (λ (part : Part). f part ≡ g part) q parts same))

apart_sum : (g : ℕ → ℤ) (n : ℕ) (parts : List Part) → Apart (λ (part : Part). has part.members) parts →
    sum_over (λ (part : Part). sum_below (λ j. pick (has part.members j) (g j)) n) parts ≡ sum_below (λ j. pick (some_has parts j) (g j)) n
apart_sum g n [] apart = sym (sum_below_zero n)
apart_sum g n (q ∷ parts) apart =
    let rest = apart_sum g n parts (λ i k d before within. apart (suc i) (suc k) d (omega (arith, before)) (omega (arith, within))) in
    let split = sum_below_same (λ j. pick (has q.members j || some_has parts j) (g j)) (λ j. pick (has q.members j) (g j) +ℤ pick (some_has parts j) (g j)) n
    (λ j below. split_pick true (has q.members j) (some_has parts j) (g j) (apart_head q parts apart j)) in
    let joined = sum_below_add (λ j. pick (has q.members j) (g j)) (λ j. pick (some_has parts j) (g j)) n in
    omega (arith, ints, rest, split, joined)

-- a sum over rising members
member_sum : (g : ℕ → ℤ) (n : ℕ) (xs : List ℕ) → AreRising n xs → sum_over g xs ≡ sum_below (λ j. pick (has xs j) (g j)) n
member_sum g n xs are = sum_over_in g xs n are.rising are.in_range
    ∙ sum_below_same (λ j. pick (is_in j xs) (g j)) (λ j. pick (has xs j) (g j)) n (λ j below. ap (λ b. pick b (g j)) (sym (any_is xs j)))

ones : (xs : List ℕ) → sum_over (λ _. pos 1) xs ≡ pos (length xs)
ones [] = refl
ones (x ∷ xs) = omega (arith, ints, ones xs)

ones_below : (n : ℕ) → sum_below (λ _. pos 1) n ≡ pos n
ones_below zero = refl
ones_below (suc n) = omega (arith, ints, ones_below n)

-- parts that are apart have no more members than there are places
pub members_most : (n : ℕ) (parts : List Part) → All (λ (part : Part). AreRising n part.members) parts → Apart (λ (part : Part). has part.members) parts → members_of parts ≤ n
members_most n parts rising apart =
    let whole = sum_over_pos (λ (part : Part). length part.members) parts in
    let each = over_same (λ (part : Part). pos (length part.members)) (λ (part : Part). sum_below (λ j. pick (has part.members j) (pos 1)) n) parts
    (λ k d within. sym (ones (get_or parts k d).members) ∙ member_sum (λ _. pos 1) n (get_or parts k d).members (rising k d within)) in
    let sum = apart_sum (λ _. pos 1) n parts apart in
    let most = sum_below_le (λ j. pick (some_has parts j) (pos 1)) (λ _. pos 1) n (λ j below. at_most (some_has parts j)) in
    omega (arith, ints, whole, each, sum, most, ones_below n)
  where
    at_most : (b : Bool) → pick b (pos 1) ≤ℤ pos 1
    at_most true = omega (arith, ints)
    at_most false = omega (arith, ints)

-- what is chosen in a part is worth, as a sum
filter_sum : (g : ℕ → ℕ) (t : ℕ → Bool) (xs : List ℕ) → pos (sum_by g (filter t xs)) ≡ sum_over (λ j. pick (t j) (pos (g j))) xs
filter_sum g t [] = refl
filter_sum g t (x ∷ xs) = elim (cases_Bool (t x)) as (λ _. pos (sum_by g (filter t (x ∷ xs))) ≡ sum_over (λ j. pick (t j) (pos (g j))) (x ∷ xs)) [
  | inl told ↦
      ap (λ b. pos (sum_by g (cond b (x ∷ filter t xs) (filter t xs)))) told ∙ ap pos (sum_by-cons g x (filter t xs))
      ∙ ap (λ z. pos (g x) +ℤ z) (filter_sum g t xs) ∙ ap (λ b. pick b (pos (g x)) +ℤ sum_over (λ j. pick (t j) (pos (g j))) xs) (sym told)
  | inr off ↦
      let rest : pos (sum_by g (filter t (x ∷ xs))) ≡ pos (sum_by g (filter t xs)) = ap (λ b. pos (sum_by g (cond b (x ∷ filter t xs) (filter t xs)))) off in
      let none : pick (t x) (pos (g x)) ≡ pos 0 = ap (λ b. pick b (pos (g x))) off in
      omega (arith, ints, rest, none, filter_sum g t xs)
]

pub part_value : (p : Clearing) (s : List ℕ) (part : Part) → pos (value_in_part p s part) ≡ sum_over (λ j. pick (has s j) (pos (worth p j))) part.members
part_value p s part = filter_sum (worth p) (has s) part.members

-- a set is worth what it is worth in each part of a partition
pub parts_value : (p : Clearing) (s : List ℕ) (parts : List Part) → ArePlaces p s → ArePartition (length p.items) parts → All (λ (part : Part). AreRising (length p.items) part.members) parts →
    value_of p s ≡ sum_by (value_in_part p s) parts
parts_value p s parts places partition rising =
    let n : ℕ = length p.items in
    let g : ℕ → ℤ = λ (j : ℕ). pick (has s j) (pos (worth p j)) in
    let whole = sum_over_pos (value_in_part p s) parts in
    let each = over_same (λ (part : Part). pos (value_in_part p s part)) (λ (part : Part). sum_below (λ j. pick (has part.members j) (g j)) n) parts
    (λ k d within. part_value p s (get_or parts k d) ∙ member_sum g n (get_or parts k d).members (rising k d within)) in
    let sum = apart_sum g n parts partition.apart in
    let all = sum_below_same (λ j. pick (some_has parts j) (g j)) g n (λ j below. ap (λ b. pick b (g j)) (partition.covered j below)) in
    let value = value_in p s places in
    let same = sum_below_same (λ j. pick (is_in j s) (pos (worth p j))) g n (λ j below. ap (λ b. pick b (pos (worth p j))) (sym (any_is s j))) in
    omega (arith, ints, whole, each, sum, all, value, same)

-- where a sum is above another, one term is
pub some_above : (v b : Part → ℕ) (parts : List Part) → sum_by v parts < sum_by b parts → (k : ℕ) × (k < length parts) × ((d : Part) → v (get_or parts k d) < b (get_or parts k d))
some_above v b [] above = absurd (omega (arith, above))
some_above v b (q ∷ parts) above = elim (cases_lt (v q) (b q)) as (λ _. (k : ℕ) × (k < length (q ∷ parts)) × ((d : Part) → v (get_or (q ∷ parts) k d) < b (get_or (q ∷ parts) k d))) [
  | inl here ↦ (0, omega arith, λ d. here)
  | inr under ↦
      let rest = some_above v b parts (omega (arith, above, under, sum_by-cons v q parts, sum_by-cons b q parts)) in
      (suc rest.0, omega (arith, rest.1), λ d. rest.2 d)
]
