-- How large the record of a legal history's entry is. A choice that is allowed, and that a record can have, has no more members
-- in all than there are places, and no more fixes at a node than a node may have: so the record fits a frame.
use Rattle.std.proofs.Common.{◌≡◌, inl, inr, ℕ, suc, ◌<◌, ◌≤◌, Bool, true, false, ◌&&◌, List, [], ◌∷◌, ◌++◌, length, get_or, eqb, Option, Some, None, refl, ap, sym, ◌∙◌, subst, arith}
use Rattle.std.specs.Prelude.{◌==◌, not, nat_lt, nat_le, IfSome}
use Rattle.std.specs.List.{All, AllPairs, AllByRecursion, IsDistinct, list_all, list_any, flat_map, sum_by}
use Rattle.std.proofs.lemmas.Bool.{and_parts, and_from, or_parts, or_cases, leb-true, eqb-true, eqb-false, ne_eqb}
use Rattle.std.proofs.lemmas.Bool.Decides.{Decides-eqb}
use Rattle.std.proofs.lemmas.List.Concat.{flat_map-cons, length-flat_map}
use Rattle.std.proofs.lemmas.List.Elements.{recursion_from_All}
use Rattle.std.proofs.lemmas.Map.Keys.{IsDistinct-head, IsDistinct-tail, IsDistinct-cons}
use Rattle.std.proofs.lemmas.Map.Made.{IsDistinct-from_AllPairs}
use Rattle.std.proofs.lemmas.Map.Steps.{length-le_from_distinct_below}
use Rattle.dali_base.specs.Limits.{most_fixes}
use Rattle.dali_line.specs.Commands.{is_command}
use Rattle.dali_line.specs.Line.{MOST_OF_COMMAND}
use Rattle.dali_problem.specs.Clearing.{Clearing}
use Rattle.dali_problem.specs.Feasible.{has}
use Rattle.dali_tree.specs.declared.tree.Tree.{Tree}
use Rattle.dali_tree.specs.declared.tree.End.{End}
use Rattle.dali_tree.specs.declared.tree.End.TheOpen.{Tree-F, End-F}
use Rattle.dali_tree.specs.declared.tree.End.TheFolds.{fold-End, fold-roll-End, fold-roll-Tree, ind-Tree, map-End, map-Tree}
use Rattle.dali_tree.specs.declared.tree.End.TheViews.{roll-End, roll-Tree}
use Rattle.dali_tree.specs.declared.choice.Part.{Part}
use Rattle.dali_tree.specs.declared.choice.Choice.{Choice}
use Rattle.dali_tree.specs.Fits.{fix_fits, lam_fits, end_fits, tree_fits, AreRising}
use Rattle.dali_entry.specs.EntryRecord.{EntryRecord}
use Rattle.dali_check.specs.Allowed.{Allowed}
use Rattle.dali_check.proofs.Certified.{certified}
use Rattle.dali_check.proofs.Entering.{has_at}
use Rattle.dali_machine.specs.Cycles.{accepted_cycle, HasChoice}
use Rattle.dali_machine.specs.History.{HasItsChoice, IsNext}
use Rattle.dali_machine.specs.Machine.{Machine}
use Rattle.dali_machine.specs.Step.{judged}
use Rattle.dali_record.specs.IsRecord.{IsChoiceWithin, IsWithin}
use Rattle.dali_record.specs.RecordText.{record_text}
use Rattle.dali_record.specs.Longest.{few_step, few_node, few_fixes, few_in_end, IsSized}
use Rattle.dali_record.proofs.LengthLemmas.{record_length, plain_length}
use Rattle.dali_replica.specs.Limits.{most_record}

-- ---- the fixes of a node

abbrev node_fits : ℕ → ℕ → Tree-F Bool Bool → Bool
node_fits items lines node = nat_le (length node.fixes) most_fixes && list_all (fix_fits items lines) node.fixes && node.end

record EndFew (items lines : ℕ) (e : End) : Type 0 where
  few : fold-End Bool Bool (end_fits items lines) (node_fits items lines) e ≡ true → few_in_end most_fixes e ≡ true

record TreeFew (items lines : ℕ) (t : Tree) : Type 0 where
  few : tree_fits items lines t ≡ true → few_fixes most_fixes t ≡ true

ends_few : (items lines : ℕ) (y : End-F ((e : End) × EndFew items lines e) ((t : Tree) × TreeFew items lines t)) → EndFew items lines (roll-End (map-End _ _ End Tree (λ e. e.0) (λ t. t.0) y))
ends_few items lines (End-F.Bound lam) = record { few = (λ told. fold-roll-End Bool Bool few_step (few_node most_fixes) (End-F.Bound lam)) }
ends_few items lines (End-F.Short line) = record { few = (λ told. fold-roll-End Bool Bool few_step (few_node most_fixes) (End-F.Short line)) }
ends_few items lines (End-F.Branch place lam inside outside) = record {
  few = (λ told.
      let all = sym (fold-roll-End Bool Bool (end_fits items lines) (node_fits items lines) (End-F.Branch place lam inside.0 outside.0)) ∙ told in
      let sides = and_parts (nat_lt place items && lam_fits lines lam && tree_fits items lines inside.0) (tree_fits items lines outside.0) all in
      let first = and_parts (nat_lt place items && lam_fits lines lam) (tree_fits items lines inside.0) sides.0 in
      fold-roll-End Bool Bool few_step (few_node most_fixes) (End-F.Branch place lam inside.0 outside.0)
      ∙ and_from (few_fixes most_fixes inside.0) (few_fixes most_fixes outside.0) (inside.1.few first.1) (outside.1.few sides.1));
}

trees_few : (items lines : ℕ) (y : Tree-F ((e : End) × EndFew items lines e) ((t : Tree) × TreeFew items lines t)) → TreeFew items lines (roll-Tree (map-Tree _ _ End Tree (λ e. e.0) (λ t. t.0) y))
trees_few items lines y = record {
  few = (λ told.
      let node : Tree-F End Tree = record { fixes = y.fixes; end = y.end.0 } in
      let own_end = fold-End Bool Bool (end_fits items lines) (node_fits items lines) y.end.0 in
      let all = sym (fold-roll-Tree Bool Bool (end_fits items lines) (node_fits items lines) node) ∙ told in
      let sides = and_parts (nat_le (length y.fixes) most_fixes && list_all (fix_fits items lines) y.fixes) own_end all in
      let first = and_parts (nat_le (length y.fixes) most_fixes) (list_all (fix_fits items lines) y.fixes) sides.0 in
      fold-roll-Tree Bool Bool few_step (few_node most_fixes) node
      ∙ and_from (nat_le (length y.fixes) most_fixes) (few_in_end most_fixes y.end.0) first.0 (y.end.1.few sides.1));
}

tree_few : (items lines : ℕ) (t : Tree) → TreeFew items lines t
tree_few items lines = ind-Tree (EndFew items lines) (TreeFew items lines)
    (λ x y is. subst (λ z. EndFew items lines (roll-End z)) is (ends_few items lines y))
    (λ x y is. subst (λ z. TreeFew items lines (roll-Tree z)) is (trees_few items lines y))

-- ---- the members of all parts

abbrev members_of : List Part → List ℕ
members_of parts = flat_map (λ (part : Part). part.members) parts

both_all : (P : ℕ → Type 0) (xs ys : List ℕ) → AllByRecursion P xs → AllByRecursion P ys → AllByRecursion P (xs ++ ys)
both_all P [] ys first second = second
both_all P (x ∷ xs) ys first second = (first.0, both_all P xs ys first.1 second)

members_all : (P : ℕ → Type 0) (parts : List Part) → AllByRecursion (λ (part : Part). AllByRecursion P part.members) parts → AllByRecursion P (members_of parts)
members_all P [] all = tt
members_all P (part ∷ parts) all =
    subst (AllByRecursion P) (sym (flat_map-cons (λ (q : Part). q.members) part parts)) (both_all P part.members (members_of parts) all.0 (members_all P parts all.1))

-- two lists that have no number in common, each with each number once
both_distinct : (xs ys : List ℕ) → IsDistinct eqb xs → IsDistinct eqb ys → ((k d : ℕ) → k < length xs → AllByRecursion (λ y. eqb (get_or xs k d) y ≡ false) ys) → IsDistinct eqb (xs ++ ys)
both_distinct [] ys first second apart = second
both_distinct (x ∷ xs) ys first second apart =
    IsDistinct-cons eqb x (xs ++ ys)
    (both_all (λ y. eqb x y ≡ false) xs ys (IsDistinct-head eqb x xs first) (apart 0 x (omega arith)))
    (both_distinct xs ys (IsDistinct-tail eqb x xs first) second (λ k d within. apart (suc k) d (omega (arith, within))))

rising_distinct : (n : ℕ) (xs : List ℕ) → AreRising n xs → IsDistinct eqb xs
rising_distinct n xs are = IsDistinct-from_AllPairs Decides-eqb xs (λ i j d before within same. let less = are.rising i j d before within in absurd (omega (arith, less, same)))

none_equal : (xs : List ℕ) (j : ℕ) → has xs j ≡ false → AllByRecursion (λ x. eqb j x ≡ false) xs
none_equal [] j none = tt
none_equal (x ∷ xs) j none =
    let each = or_parts (eqb x j) (has xs j) none in
    (ne_eqb j x (λ same. eqb-false x j each.0 (sym same)), none_equal xs j each.1)

abbrev Apart : List Part → Type 0
Apart parts = AllPairs (λ (a b : Part). (j : ℕ) → (has a.members j && has b.members j) ≡ false) parts

members_distinct : (n : ℕ) (parts : List Part) → AllByRecursion (λ (part : Part). AreRising n part.members) parts → Apart parts → IsDistinct eqb (members_of parts)
unfolding IsDistinct
members_distinct n [] rise apart = tt
members_distinct n (part ∷ parts) rise apart =
    subst (IsDistinct eqb) (sym (flat_map-cons (λ (q : Part). q.members) part parts))
    (both_distinct part.members (members_of parts) (rising_distinct n part.members rise.0)
    (members_distinct n parts rise.1 (λ i j d before within. apart (suc i) (suc j) d (omega (arith, before)) (omega (arith, within))))
    (λ k d within. members_all (λ y. eqb (get_or part.members k d) y ≡ false) parts
    (recursion_from_All (λ (q : Part). AllByRecursion (λ y. eqb (get_or part.members k d) y ≡ false) q.members) parts
    (λ i q below. none_equal (get_or parts i q).members (get_or part.members k d)
    (others (get_or part.members k d) (has_at part.members k d within) i q below)))))
  where
    others : (x : ℕ) → has part.members x ≡ true → (i : ℕ) (q : Part) → i < length parts → has (get_or parts i q).members x ≡ false
    others x there i q below =
        sym (ap (λ b. b && has (get_or parts i q).members x) there) ∙ apart 0 (suc i) q (omega arith) (omega (arith, below)) x

all_below : (n : ℕ) (xs : List ℕ) → AllByRecursion (λ x. x < n) xs → (j : ℕ) → list_any (eqb j) xs ≡ true → j < n
all_below n [] all j told = absurd (cc)
all_below n (x ∷ xs) all j told = elim (or_cases (eqb j x) (list_any (eqb j) xs) told) as (λ _. j < n) [
  | inl here ↦ let same = eqb-true j x here in let low = all.0 in omega (arith, same, low)
  | inr rest ↦ all_below n xs all.1 j rest
]

members_few : (n : ℕ) (parts : List Part) → All (λ (part : Part). AreRising n part.members) parts → Apart parts → sum_by (λ (part : Part). length part.members) parts ≤ n
members_few n parts rise apart =
    let once = members_distinct n parts (recursion_from_All (λ (part : Part). AreRising n part.members) parts rise) apart in
    let low = members_all (λ x. x < n) parts (recursion_from_All (λ (part : Part). AllByRecursion (λ x. x < n) part.members) parts
    (λ k d within. recursion_from_All (λ x. x < n) (get_or parts k d).members (rise k d within).in_range)) in
    let few = length-le_from_distinct_below (members_of parts) n once (all_below n (members_of parts) low) in
    let all = length-flat_map (λ (part : Part). part.members) parts in
    omega (arith, few, all)

-- ---- a record

sized : (p : Clearing) (budget : ℕ) (choice : Choice) → IsChoiceWithin choice → Allowed p budget choice → IsSized 1024 4096 4096 choice
sized p budget choice within allowed = record {
  fits = within.fits;
  members = members_few 1024 choice.parts (λ k d below. (within.fits.parts k d below).members) (certified p budget choice allowed).whole.partition.apart;
  fixes = (λ k d below. (tree_few 1024 4096 (get_or choice.parts k d).tree).few (within.fits.parts k d below).tree);
  branches = within.branches;
}

line_short : (e : EntryRecord) → IsWithin e → length e.line ≤ 200
line_short e within =
    let a = and_parts (is_command e.line && nat_le (length e.line) MOST_OF_COMMAND) (list_all (λ b. not (b == 10)) e.line) within.line in
    let b = and_parts (is_command e.line) (nat_le (length e.line) MOST_OF_COMMAND) a.0 in
    leb-true (length e.line) MOST_OF_COMMAND b.1

-- an allowed choice, of whatever problem it is
asked : (m : Machine) (o : Option (ℕ × ℕ)) (choice : Choice) → HasChoice m o (Some choice) → (p : Clearing) × (budget : ℕ) × Allowed p budget choice
asked m None choice has_it = absurd has_it
asked m (Some c) choice has_it = (_, c.1, has_it.allowed)

pub record_short : (m : Machine) (last : ℕ) (e : EntryRecord) → IsWithin e → IsNext m last e → length (record_text e) ≤ most_record
record_short m last e within next = by e.choice refl
  where
    by : (o : Option Choice) → e.choice ≡ o → length (record_text e) ≤ most_record
    by None is = let all = plain_length e is in let line = line_short e within in omega (arith, all, line)
    by (Some choice) is =
        let allowed = asked m (accepted_cycle (judged e.edition m e.line)) choice (subst (λ o. HasItsChoice m (judged e.edition m e.line) o) is next.choice) in
        let size = sized allowed.0 allowed.1 choice (subst (λ o. IfSome o IsChoiceWithin) is within.choice) allowed.2 in
        let all = record_length 1024 4096 4096 e (subst (λ o. IfSome o (IsSized 1024 4096 4096)) (sym is) size) in
        let line = line_short e within in
        omega (arith, all, line)
