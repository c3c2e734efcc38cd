-- How large the record of a cycle's choice is. A choice that fits its problem and is allowed fits the greatest problem
-- too, has no more members in all than the problem has items, no more fixes at a node than a node may have, and no more
-- branches than its budget: so its record fits a frame of the journal.
use Rattle.std.proofs.Common.{◌≡◌, inl, inr, ℕ, suc, ◌<◌, ◌≤◌, Bool, true, false, ◌&&◌, List, [], ◌∷◌, ◌++◌, length, get_or, eqb, Some, refl, sym, ◌∙◌, ap, subst, arith}
use Rattle.std.specs.Prelude.{◌==◌, not, nat_lt, nat_le, IsTrue, map}
use Rattle.std.specs.List.{All, AllPairs, AllByRecursion, IsDistinct, list_all, list_any, flat_map, sum_by}
use Rattle.std.proofs.lemmas.Bool.{and_parts, and_from, or_parts, or_cases, ltb-true, leb-true, lt-ltb, eqb-true, eqb-false, ne_eqb}
use Rattle.std.proofs.lemmas.Bool.Decides.{Decides-eqb}
use Rattle.std.proofs.lemmas.List.Concat.{flat_map-cons, length-flat_map}
use Rattle.std.proofs.lemmas.List.Elements.{recursion_from_All}
use Rattle.std.proofs.lemmas.Map.Keys.{IsDistinct-head, IsDistinct-tail, IsDistinct-cons}
use Rattle.std.proofs.lemmas.Map.Made.{IsDistinct-from_AllPairs}
use Rattle.std.proofs.lemmas.Map.Steps.{length-le_from_distinct_below}
use Rattle.dali_base.specs.Limits.{most_multiplier, most_fixes}
use Rattle.dali_line.specs.Commands.{is_command}
use Rattle.dali_line.specs.Line.{is_line, MOST_OF_COMMAND}
use Rattle.dali_problem.specs.Clearing.{Clearing}
use Rattle.dali_problem.specs.Limits.{IsProblem}
use Rattle.dali_problem.specs.Feasible.{has}
use Rattle.dali_tree.specs.declared.fix.Fix.{Fix}
use Rattle.dali_tree.specs.declared.fix.Fix.TheVariants.{Barred, Needed, Safe}
use Rattle.dali_tree.specs.declared.tree.Tree.{Tree}
use Rattle.dali_tree.specs.declared.tree.End.{End}
use Rattle.dali_tree.specs.declared.tree.End.TheOpen.{Tree-F, End-F}
use Rattle.dali_tree.specs.declared.tree.End.TheFolds.{fold-End, fold-Tree, fold-roll-End, fold-roll-Tree, ind-Tree, map-End, map-Tree}
use Rattle.dali_tree.specs.declared.tree.End.TheViews.{roll-End, roll-Tree}
use Rattle.dali_tree.specs.declared.choice.Part.{Part}
use Rattle.dali_tree.specs.declared.choice.Choice.{Choice}
use Rattle.dali_tree.specs.Fits.{fix_fits, is_rising, multiplier_fits, lam_fits, end_fits, tree_fits, AreRising, PartFits, Fits}
use Rattle.dali_entry.specs.EntryRecord.{EntryRecord}
use Rattle.dali_check.specs.Allowed.{Allowed}
use Rattle.dali_check.proofs.Certified.{certified}
use Rattle.dali_check.proofs.Entering.{has_at}
use Rattle.dali_record.specs.IsRecord.{IsChoiceWithin}
use Rattle.dali_record.specs.Longest.{longest, few_step, few_node, few_fixes, IsSized}
use Rattle.dali_journal.specs.Limits.{most_payload}

-- ---- tests that follow from one another

and_more : (a b c d : Bool) → (a ≡ true → c ≡ true) → (b ≡ true → d ≡ true) → (a && b) ≡ true → (c && d) ≡ true
and_more a b c d first second told = let both = and_parts a b told in and_from c d (first both.0) (second both.1)

all_more : {X : Type 0} (one other : X → Bool) → ((x : X) → one x ≡ true → other x ≡ true) → (xs : List X) → list_all one xs ≡ true → list_all other xs ≡ true
all_more one other more [] told = refl
all_more one other more (x ∷ xs) told = and_more (one x) (list_all one xs) (other x) (list_all other xs) (more x) (all_more one other more xs) told

abbrev EndTest : Type 0
EndTest = End-F Bool Bool → Bool

abbrev NodeTest : Type 0
NodeTest = Tree-F Bool Bool → Bool

-- one test of trees follows from another, at each end and each node where it does at the sides
record Follows (from_end to_end : EndTest) (from_node to_node : NodeTest) : Type 0 where
  bound : (lam : List (ℕ × ℕ)) → from_end (End-F.Bound lam) ≡ true → to_end (End-F.Bound lam) ≡ true
  short : (line : ℕ) → from_end (End-F.Short line) ≡ true → to_end (End-F.Short line) ≡ true
  branch : (place : ℕ) (lam : List (ℕ × ℕ)) (a b c d : Bool) → (a ≡ true → c ≡ true) → (b ≡ true → d ≡ true) →
      from_end (End-F.Branch place lam a b) ≡ true → to_end (End-F.Branch place lam c d) ≡ true
  node : (fixes : List Fix) (a b : Bool) → (a ≡ true → b ≡ true) →
      from_node (record { fixes = fixes; end = a }) ≡ true → to_node (record { fixes = fixes; end = b }) ≡ true

record EndFollows (from_end to_end : EndTest) (from_node to_node : NodeTest) (e : End) : Type 0 where
  follows : fold-End Bool Bool from_end from_node e ≡ true → fold-End Bool Bool to_end to_node e ≡ true

record TreeFollows (from_end to_end : EndTest) (from_node to_node : NodeTest) (t : Tree) : Type 0 where
  follows : fold-Tree Bool Bool from_end from_node t ≡ true → fold-Tree Bool Bool to_end to_node t ≡ true

ends_follow : (from_end to_end : EndTest) (from_node to_node : NodeTest) → Follows from_end to_end from_node to_node →
    (y : End-F ((e : End) × EndFollows from_end to_end from_node to_node e) ((t : Tree) × TreeFollows from_end to_end from_node to_node t)) →
    EndFollows from_end to_end from_node to_node (roll-End (map-End _ _ End Tree (λ e. e.0) (λ t. t.0) y))
ends_follow from_end to_end from_node to_node law (End-F.Bound lam) = record {
  follows = (λ told. fold-roll-End Bool Bool to_end to_node (End-F.Bound lam)
      ∙ law.bound lam (sym (fold-roll-End Bool Bool from_end from_node (End-F.Bound lam)) ∙ told));
}
ends_follow from_end to_end from_node to_node law (End-F.Short line) = record {
  follows = (λ told. fold-roll-End Bool Bool to_end to_node (End-F.Short line)
      ∙ law.short line (sym (fold-roll-End Bool Bool from_end from_node (End-F.Short line)) ∙ told));
}
ends_follow from_end to_end from_node to_node law (End-F.Branch place lam inside outside) = record {
  follows = (λ told. fold-roll-End Bool Bool to_end to_node (End-F.Branch place lam inside.0 outside.0)
      ∙ law.branch place lam (fold-Tree Bool Bool from_end from_node inside.0) (fold-Tree Bool Bool from_end from_node outside.0)
      (fold-Tree Bool Bool to_end to_node inside.0) (fold-Tree Bool Bool to_end to_node outside.0) inside.1.follows outside.1.follows
      (sym (fold-roll-End Bool Bool from_end from_node (End-F.Branch place lam inside.0 outside.0)) ∙ told));
}

nodes_follow : (from_end to_end : EndTest) (from_node to_node : NodeTest) → Follows from_end to_end from_node to_node →
    (y : Tree-F ((e : End) × EndFollows from_end to_end from_node to_node e) ((t : Tree) × TreeFollows from_end to_end from_node to_node t)) →
    TreeFollows from_end to_end from_node to_node (roll-Tree (map-Tree _ _ End Tree (λ e. e.0) (λ t. t.0) y))
nodes_follow from_end to_end from_node to_node law y = record {
  follows = (λ told. fold-roll-Tree Bool Bool to_end to_node (record { fixes = y.fixes; end = y.end.0 })
      ∙ law.node y.fixes (fold-End Bool Bool from_end from_node y.end.0) (fold-End Bool Bool to_end to_node y.end.0) y.end.1.follows
      (sym (fold-roll-Tree Bool Bool from_end from_node (record { fixes = y.fixes; end = y.end.0 })) ∙ told));
}

tree_follows : (from_end to_end : EndTest) (from_node to_node : NodeTest) → Follows from_end to_end from_node to_node →
    (t : Tree) → TreeFollows from_end to_end from_node to_node t
tree_follows from_end to_end from_node to_node law = ind-Tree (EndFollows from_end to_end from_node to_node) (TreeFollows from_end to_end from_node to_node)
    (λ x y is. subst (λ z. EndFollows from_end to_end from_node to_node (roll-End z)) is (ends_follow from_end to_end from_node to_node law y))
    (λ x y is. subst (λ z. TreeFollows from_end to_end from_node to_node (roll-Tree z)) is (nodes_follow from_end to_end from_node to_node law y))

-- ---- what fits a problem fits a larger one

less_wide : (x n m : ℕ) → n ≤ m → nat_lt x n ≡ true → nat_lt x m ≡ true
less_wide x n m wider told = let less = ltb-true x n told in lt-ltb x m (omega (arith, less, wider))

fix_wide : (items lines more longer : ℕ) → items ≤ more → lines ≤ longer → (f : Fix) → fix_fits items lines f ≡ true → fix_fits more longer f ≡ true
fix_wide items lines more longer wider far (Barred place line) told =
    and_more (nat_lt place items) (nat_lt line lines) (nat_lt place more) (nat_lt line longer) (less_wide place items more wider) (less_wide line lines longer far) told
fix_wide items lines more longer wider far (Needed place line) told =
    and_more (nat_lt place items) (nat_lt line lines) (nat_lt place more) (nat_lt line longer) (less_wide place items more wider) (less_wide line lines longer far) told
fix_wide items lines more longer wider far (Safe place) told = less_wide place items more wider told

multiplier_wide : (lines longer : ℕ) → lines ≤ longer → (m : ℕ × ℕ) → multiplier_fits lines m ≡ true → multiplier_fits longer m ≡ true
multiplier_wide lines longer far m =
    and_more (nat_lt m.0 lines && nat_le 1 m.1) (nat_le m.1 most_multiplier) (nat_lt m.0 longer && nat_le 1 m.1) (nat_le m.1 most_multiplier)
    (and_more (nat_lt m.0 lines) (nat_le 1 m.1) (nat_lt m.0 longer) (nat_le 1 m.1) (less_wide m.0 lines longer far) (λ same. same)) (λ same. same)

lam_wide : (lines longer : ℕ) → lines ≤ longer → (lam : List (ℕ × ℕ)) → lam_fits lines lam ≡ true → lam_fits longer lam ≡ true
lam_wide lines longer far lam =
    and_more (list_all (multiplier_fits lines) lam) (is_rising (map (λ (m : ℕ × ℕ). m.0) lam)) (list_all (multiplier_fits longer) lam) (is_rising (map (λ (m : ℕ × ℕ). m.0) lam))
    (all_more (multiplier_fits lines) (multiplier_fits longer) (multiplier_wide lines longer far) lam) (λ same. same)

abbrev node_fits : ℕ → ℕ → NodeTest
node_fits items lines node = nat_le (length node.fixes) most_fixes && list_all (fix_fits items lines) node.fixes && node.end

fits_follow : (items lines more longer : ℕ) → items ≤ more → lines ≤ longer →
    Follows (end_fits items lines) (end_fits more longer) (node_fits items lines) (node_fits more longer)
fits_follow items lines more longer wider far = record {
  bound = lam_wide lines longer far;
  short = (λ line. less_wide line lines longer far);
  branch = (λ place lam a b c d inside outside.
      and_more (nat_lt place items && lam_fits lines lam && a) b (nat_lt place more && lam_fits longer lam && c) d
      (and_more (nat_lt place items && lam_fits lines lam) a (nat_lt place more && lam_fits longer lam) c
      (and_more (nat_lt place items) (lam_fits lines lam) (nat_lt place more) (lam_fits longer lam) (less_wide place items more wider) (lam_wide lines longer far lam))
      inside) outside);
  node = (λ fixes a b ending.
      and_more (nat_le (length fixes) most_fixes && list_all (fix_fits items lines) fixes) a (nat_le (length fixes) most_fixes && list_all (fix_fits more longer) fixes) b
      (and_more (nat_le (length fixes) most_fixes) (list_all (fix_fits items lines) fixes) (nat_le (length fixes) most_fixes) (list_all (fix_fits more longer) fixes)
      (λ same. same) (all_more (fix_fits items lines) (fix_fits more longer) (fix_wide items lines more longer wider far) fixes)) ending);
}

rising_wide : (n m : ℕ) (xs : List ℕ) → n ≤ m → AreRising n xs → AreRising m xs
rising_wide n m xs wider are = record {
  rising = are.rising;
  in_range = (λ k d within. let low = are.in_range k d within in omega (arith, low, wider));
}

part_wide : (items lines more longer : ℕ) → items ≤ more → lines ≤ longer → (part : Part) → PartFits items lines part → PartFits more longer part
part_wide items lines more longer wider far part fits = record {
  some = fits.some;
  members = rising_wide items more part.members wider fits.members;
  bound = fits.bound;
  tree = (tree_follows (end_fits items lines) (end_fits more longer) (node_fits items lines) (node_fits more longer)
      (fits_follow items lines more longer wider far) part.tree).follows fits.tree;
  depth = fits.depth;
}

choice_wide : (items lines more longer : ℕ) → items ≤ more → lines ≤ longer → (choice : Choice) → Fits items lines choice → Fits more longer choice
choice_wide items lines more longer wider far choice fits = record {
  set = rising_wide items more choice.places wider fits.set;
  parts = (λ k d within. part_wide items lines more longer wider far (get_or choice.parts k d) (fits.parts k d within));
  order = fits.order;
}

-- ---- the fixes of a node

few_follow : (items lines : ℕ) → Follows (end_fits items lines) few_step (node_fits items lines) (few_node most_fixes)
few_follow items lines = record {
  bound = (λ lam told. refl);
  short = (λ line told. refl);
  branch = (λ place lam a b c d inside outside told.
      let sides = and_parts (nat_lt place items && lam_fits lines lam && a) b told in
      let first = and_parts (nat_lt place items && lam_fits lines lam) a sides.0 in
      and_from c d (inside first.1) (outside sides.1));
  node = (λ fixes a b ending told.
      let own = and_parts (nat_le (length fixes) most_fixes && list_all (fix_fits items lines) fixes) a told in
      let few = and_parts (nat_le (length fixes) most_fixes) (list_all (fix_fits items lines) fixes) own.0 in
      and_from (nat_le (length fixes) most_fixes) b few.0 (ending own.1));
}

tree_few : (items lines : ℕ) (t : Tree) → tree_fits items lines t ≡ true → few_fixes most_fixes t ≡ true
tree_few items lines t = (tree_follows (end_fits items lines) few_step (node_fits items lines) (few_node most_fixes) (few_follow items lines) t).follows

-- ---- the members of all parts

abbrev members_of : List Part → List ℕ
members_of parts = flat_map (λ (part : Part). part.members) parts

both_all : (P : ℕ → Type 0) (xs ys : List ℕ) → AllByRecursion P xs → AllByRecursion P ys → AllByRecursion P (xs ++ ys)
both_all P [] ys first second = second
both_all P (x ∷ xs) ys first second = (first.0, both_all P xs ys first.1 second)

members_all : (P : ℕ → Type 0) (parts : List Part) → AllByRecursion (λ (part : Part). AllByRecursion P part.members) parts → AllByRecursion P (members_of parts)
members_all P [] all = tt
members_all P (part ∷ parts) all =
    subst (AllByRecursion P) (sym (flat_map-cons (λ (q : Part). q.members) part parts)) (both_all P part.members (members_of parts) all.0 (members_all P parts all.1))

-- two lists that have no number in common, each with each number once
both_distinct : (xs ys : List ℕ) → IsDistinct eqb xs → IsDistinct eqb ys → ((k d : ℕ) → k < length xs → AllByRecursion (λ y. eqb (get_or xs k d) y ≡ false) ys) → IsDistinct eqb (xs ++ ys)
both_distinct [] ys first second apart = second
both_distinct (x ∷ xs) ys first second apart =
    IsDistinct-cons eqb x (xs ++ ys)
    (both_all (λ y. eqb x y ≡ false) xs ys (IsDistinct-head eqb x xs first) (apart 0 x (omega arith)))
    (both_distinct xs ys (IsDistinct-tail eqb x xs first) second (λ k d within. apart (suc k) d (omega (arith, within))))

rising_distinct : (n : ℕ) (xs : List ℕ) → AreRising n xs → IsDistinct eqb xs
rising_distinct n xs are = IsDistinct-from_AllPairs Decides-eqb xs (λ i j d before within same. let less = are.rising i j d before within in absurd (omega (arith, less, same)))

none_equal : (xs : List ℕ) (j : ℕ) → has xs j ≡ false → AllByRecursion (λ x. eqb j x ≡ false) xs
none_equal [] j none = tt
none_equal (x ∷ xs) j none =
    let each = or_parts (eqb x j) (has xs j) none in
    (ne_eqb j x (λ same. eqb-false x j each.0 (sym same)), none_equal xs j each.1)

abbrev Apart : List Part → Type 0
Apart parts = AllPairs (λ (a b : Part). (j : ℕ) → (has a.members j && has b.members j) ≡ false) parts

members_distinct : (n : ℕ) (parts : List Part) → AllByRecursion (λ (part : Part). AreRising n part.members) parts → Apart parts → IsDistinct eqb (members_of parts)
unfolding IsDistinct
members_distinct n [] rise apart = tt
members_distinct n (part ∷ parts) rise apart =
    subst (IsDistinct eqb) (sym (flat_map-cons (λ (q : Part). q.members) part parts))
    (both_distinct part.members (members_of parts) (rising_distinct n part.members rise.0)
    (members_distinct n parts rise.1 (λ i j d before within. apart (suc i) (suc j) d (omega (arith, before)) (omega (arith, within))))
    (λ k d within. members_all (λ y. eqb (get_or part.members k d) y ≡ false) parts
    (recursion_from_All (λ (q : Part). AllByRecursion (λ y. eqb (get_or part.members k d) y ≡ false) q.members) parts
    (λ i q below. none_equal (get_or parts i q).members (get_or part.members k d)
    (others (get_or part.members k d) (has_at part.members k d within) i q below)))))
  where
    others : (x : ℕ) → has part.members x ≡ true → (i : ℕ) (q : Part) → i < length parts → has (get_or parts i q).members x ≡ false
    others x there i q below =
        sym (ap (λ b. b && has (get_or parts i q).members x) there) ∙ apart 0 (suc i) q (omega arith) (omega (arith, below)) x

all_below : (n : ℕ) (xs : List ℕ) → AllByRecursion (λ x. x < n) xs → (j : ℕ) → list_any (eqb j) xs ≡ true → j < n
all_below n [] all j told = absurd (cc)
all_below n (x ∷ xs) all j told = elim (or_cases (eqb j x) (list_any (eqb j) xs) told) as (λ _. j < n) [
  | inl here ↦ let same = eqb-true j x here in let low = all.0 in omega (arith, same, low)
  | inr rest ↦ all_below n xs all.1 j rest
]

members_few : (n : ℕ) (parts : List Part) → All (λ (part : Part). AreRising n part.members) parts → Apart parts → sum_by (λ (part : Part). length part.members) parts ≤ n
members_few n parts rise apart =
    let once = members_distinct n parts (recursion_from_All (λ (part : Part). AreRising n part.members) parts rise) apart in
    let low = members_all (λ x. x < n) parts (recursion_from_All (λ (part : Part). AllByRecursion (λ x. x < n) part.members) parts
    (λ k d within. recursion_from_All (λ x. x < n) (get_or parts k d).members (rise k d within).in_range)) in
    let few = length-le_from_distinct_below (members_of parts) n once (all_below n (members_of parts) low) in
    let all = length-flat_map (λ (part : Part). part.members) parts in
    omega (arith, few, all)

-- ---- a choice of a cycle

-- an allowed choice of any problem has the size that is the greatest of all
pub sized : (p : Clearing) (budget : ℕ) (choice : Choice) → IsProblem p → budget ≤ 4096 → Fits (length p.items) (length p.lines) choice → Allowed p budget choice →
    IsSized 1024 4096 4096 choice
sized p budget choice problem small fits allowed =
    let is = certified p budget choice allowed in
    let members = members_few (length p.items) choice.parts (λ k d within. (fits.parts k d within).members) is.whole.partition.apart in
    let wider = problem.items in
    let branches = is.within in
    record {
      fits = choice_wide (length p.items) (length p.lines) 1024 4096 problem.items problem.lines choice fits;
      members = omega (arith, members, wider);
      fixes = (λ k d within. tree_few (length p.items) (length p.lines) (get_or choice.parts k d).tree (fits.parts k d within).tree);
      branches = omega (arith, branches, small);
    }

-- and a record can have it
pub within : (p : Clearing) (budget : ℕ) (choice : Choice) → IsProblem p → budget ≤ 4096 → Fits (length p.items) (length p.lines) choice → Allowed p budget choice →
    IsChoiceWithin choice
within p budget choice problem small fits allowed =
    let is = sized p budget choice problem small fits allowed in
    record { fits = is.fits; branches = is.branches }

-- the record of a line with such a choice fits a frame
pub record_short : (e : EntryRecord) (choice : Choice) → e.choice ≡ Some choice → IsTrue (is_line e.line) → IsSized 1024 4096 4096 choice →
    longest (length e.line) 1024 4096 4096 ≤ most_payload
record_short e choice some told is =
    let a = and_parts (is_command e.line && nat_le (length e.line) MOST_OF_COMMAND) (list_all (λ b. not (b == 10)) e.line) told in
    let b = and_parts (is_command e.line) (nat_le (length e.line) MOST_OF_COMMAND) a.0 in
    let short = leb-true (length e.line) MOST_OF_COMMAND b.1 in
    omega (arith, short)
