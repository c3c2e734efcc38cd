-- How long a record is.
use Rattle.std.proofs.Common.{◌≡◌, ◌≢◌, inl, inr, ℕ, zero, suc, ◌+◌, ◌*◌, ◌<◌, ◌≤◌, Bool, true, ◌&&◌, List, [], ◌∷◌, ◌++◌, length, Option, Some, None, refl, sym, ◌∙◌, ap, subst, arith, length-append}
use Rattle.std.specs.Prelude.{◌^◌, max, nat_lt, nat_le, IsTrue, IfSome, unwrap_or, map}
use Rattle.std.specs.List.{list_all, flat_map, sum_by, All, AllByRecursion}
use Rattle.std.proofs.Math.Nat.{add-mul, mul-le-mul_right}
use Rattle.std.proofs.lemmas.Bool.{and_parts, leb-true, ltb-true, cases_lt}
use Rattle.std.proofs.lemmas.Bool.Decides.{eqb_tells}
use Rattle.std.proofs.lemmas.List.Concat.{flat_map-cons}
use Rattle.std.proofs.lemmas.List.Elements.{recursion_from_All}
use Rattle.std.proofs.lemmas.List.Sums.{sum_by-cons}
use Rattle.dali_tree.specs.declared.fix.Fix.{Fix}
use Rattle.dali_tree.specs.declared.fix.Fix.TheVariants.{Barred, Needed, Safe}
use Rattle.dali_tree.specs.declared.tree.Tree.{Tree}
use Rattle.dali_tree.specs.declared.tree.End.{End}
use Rattle.dali_tree.specs.declared.tree.End.TheVariants as ends
use Rattle.dali_tree.specs.declared.tree.End.TheVariants.{rolls-Bound, rolls-Short, rolls-Branch}
use Rattle.dali_tree.specs.declared.tree.End.TheOpen.{Tree-F, End-F}
use Rattle.dali_tree.specs.declared.tree.End.TheFolds.{fold-roll-End, fold-roll-Tree, ind-Tree, map-End, map-Tree}
use Rattle.dali_tree.specs.declared.tree.End.TheViews.{roll-End, roll-Tree, rolls-struct-Tree}
use Rattle.dali_tree.specs.declared.choice.Part.{Part}
use Rattle.dali_tree.specs.declared.choice.Choice.{Choice}
use Rattle.dali_tree.specs.Tree.{branch_count}
use Rattle.dali_tree.specs.Fits.{fix_fits, multiplier_fits, is_rising, lam_fits, tree_fits, PartFits, first_member, Fits}
use Rattle.dali_tree.specs.Ends.{end_count, ends_fit}
use Rattle.dali_entry.specs.EntryRecord.{EntryRecord}
use Rattle.dali_record.specs.Multipliers.{Rises, at_line, all_zero, multiplier, change, changes_from, changes}
use Rattle.dali_record.specs.TreeText.{two_bytes, eight_bytes, list_text, places_text, fix_text, multiplier_text, lam_text, tree_text, ends_text}
use Rattle.dali_record.specs.RecordText.{part_text, choice_text, option_text, record_text}
use Rattle.dali_record.specs.IsRecord.{branches_of}
use Rattle.dali_record.specs.Longest.{longest, few_step, few_node, few_fixes, few_in_end, IsSized}
use Rattle.dali_record.proofs.ChangeLemmas.{rises_lower, at_tail, change_none, change_some}
use Rattle.dali_record.proofs.LamLemmas.{rises_short}
use Rattle.dali_record.proofs.TreeEquations.{text_bound, text_short, text_branch, text_node, count_bound, count_short, count_branch, count_node, fits_bound, fits_branch, fits_node}
use Rattle.dali_record.proofs.EntryAgain.{short_list}

-- ---- lists

fixes_length : (fixes : List Fix) → length (flat_map fix_text fixes) ≤ 5 * length fixes
fixes_length [] = omega arith
fixes_length (f ∷ fixes) =
    let one = one_fix f in
    let more = fixes_length fixes in
    let both = ap (λ (x : List ℕ). length x) (flat_map-cons fix_text f fixes) in
    omega (arith, one, more, both, length-append (fix_text f) (flat_map fix_text fixes))
  where
    one_fix : (f : Fix) → length (fix_text f) ≤ 5
    one_fix (Barred place line) = omega arith
    one_fix (Needed place line) = omega arith
    one_fix (Safe place) = omega arith

multipliers_length : (ms : List (ℕ × ℕ)) → length (flat_map multiplier_text ms) ≡ 10 * length ms
multipliers_length [] = refl
multipliers_length (m ∷ ms) =
    let more = multipliers_length ms in
    let ten : length (multiplier_text m) ≡ 10 = refl in
    let both = ap (λ (x : List ℕ). length x) (flat_map-cons multiplier_text m ms) in
    omega (arith, more, ten, both, length-append (multiplier_text m) (flat_map multiplier_text ms))

places_length : (places : List ℕ) → length (places_text places) ≡ 2 + 2 * length places
places_length places = let all = pairs places in omega (arith, all)
  where
    pairs : (xs : List ℕ) → length (flat_map two_bytes xs) ≡ 2 * length xs
    pairs [] = refl
    pairs (x ∷ xs) =
        let more = pairs xs in
        let two : length (two_bytes x) ≡ 2 = refl in
        let both = ap (λ (y : List ℕ). length y) (flat_map-cons two_bytes x xs) in
        omega (arith, more, two, both, length-append (two_bytes x) (flat_map two_bytes xs))

-- ---- changes

-- where nothing differs from a line on, no change stands there
changes_within : (f g : ℕ → ℕ) (end line count : ℕ) → ((l : ℕ) → end ≤ l → g l ≡ f l) → Rises line end (changes_from f g line count)
unfolding changes_from
changes_within f g end line zero same = tt
changes_within f g end line (suc count) same =
    let rest = changes_within f g end (suc line) count same in
    elim (eqb_tells (g line) (f line)) as (λ _. Rises line end (change f g line ++ changes_from f g (suc line) count)) [
      | inl is ↦ subst (λ (x : List (ℕ × ℕ)). Rises line end (x ++ changes_from f g (suc line) count)) (sym (change_none f g line is.1))
          (rises_lower (suc line) line end (changes_from f g (suc line) count) (omega arith) rest)
      | inr other ↦ subst (λ (x : List (ℕ × ℕ)). Rises line end (x ++ changes_from f g (suc line) count)) (sym (change_some f g line other.1))
          (omega arith, below line other.1, rest)
    ]
  where
    below : (l : ℕ) → g l ≢ f l → l < end
    below l apart = elim (cases_lt l end) [ inl lt ↦ lt | inr ge ↦ absurd (apart (same l ge)) ]

zero_past : (lines : ℕ) (lam : List (ℕ × ℕ)) (l : ℕ) → list_all (multiplier_fits lines) lam ≡ true → lines ≤ l → multiplier lam l ≡ 0
zero_past lines [] l each past = refl
zero_past lines (m ∷ lam) l each past =
    let a = and_parts (multiplier_fits lines m) (list_all (multiplier_fits lines) lam) each in
    let b = and_parts (nat_lt m.0 lines && nat_le 1 m.1) (nat_le m.1 (2 ^ 44)) a.0 in
    let c = and_parts (nat_lt m.0 lines) (nat_le 1 m.1) b.0 in
    let low = ltb-true m.0 lines c.0 in
    ap (λ o. unwrap_or o 0) (at_tail m lam l (λ at. omega (arith, low, at))) ∙ zero_past lines lam l a.1 past

-- multipliers that are 0 from a line on
pub record Ends (lines : ℕ) (above : ℕ → ℕ) : Type 0 where
  pub past : (l : ℕ) → lines ≤ l → above l ≡ 0

lam_ends : (lines : ℕ) (lam : List (ℕ × ℕ)) → lam_fits lines lam ≡ true → Ends lines (multiplier lam)
lam_ends lines lam fits =
    let each = (and_parts (list_all (multiplier_fits lines) lam) (is_rising (map (λ (m : ℕ × ℕ). m.0) lam)) fits).0 in
    record { past = (λ l past. zero_past lines lam l each past) }

lam_length : (lines : ℕ) (above : ℕ → ℕ) (lam : List (ℕ × ℕ)) → Ends lines above → lam_fits lines lam ≡ true → length (lam_text above lam) ≤ 2 + 10 * lines
lam_length lines above lam up fits =
    let own = lam_ends lines lam fits in
    let rises : Rises 0 lines (changes above (multiplier lam)) = changes_within above (multiplier lam) lines 0 4096 (λ l past. own.past l past ∙ sym (up.past l past)) in
    let few = rises_short 0 lines (changes above (multiplier lam)) (omega arith) rises in
    let all = multipliers_length (changes above (multiplier lam)) in
    omega (arith, few, all)

-- ---- trees

few_branch : (items place : ℕ) (lam : List (ℕ × ℕ)) (inside outside : Tree) → few_in_end items (ends.Branch place lam inside outside) ≡ (few_fixes items inside && few_fixes items outside)
few_branch items place lam inside outside =
    ap (λ (e : End). few_in_end items e) (sym (rolls-Branch place lam inside outside)) ∙ fold-roll-End Bool Bool few_step (few_node items) (End-F.Branch place lam inside outside)

few_of_node : (items : ℕ) (fixes : List Fix) (its_end : End) → few_fixes items (record { fixes = fixes; end = its_end }) ≡ (nat_le (length fixes) items && few_in_end items its_end)
few_of_node items fixes its_end =
    ap (λ (t : Tree). few_fixes items t) (sym (rolls-struct-Tree (record { fixes = fixes; end = its_end })))
    ∙ fold-roll-Tree Bool Bool few_step (few_node items) (record { fixes = fixes; end = its_end })

-- the room of so many nodes, two for a branch
unfoldable rooms : ℕ → ℕ → ℕ → ℕ
rooms branches ends w = (2 * branches + ends) * w

rooms_one : (n w : ℕ) → n ≡ 0 → rooms n 1 w ≡ w
unfolding rooms
rooms_one n w none = ap (λ (k : ℕ). (2 * k + 1) * w) none ∙ omega arith

rooms_branch : (n a b w : ℕ) → n ≡ a + b + 1 → rooms n 1 w ≡ rooms a 1 w + rooms b 1 w + w
unfolding rooms
rooms_branch n a b w is =
    let split : 2 * n + 1 ≡ (2 * a + 1) + (2 * b + 1) + 1 = omega (arith, is) in
    let one : 1 * w ≡ w = omega arith in
    ap (λ (k : ℕ). k * w) split ∙ add-mul ((2 * a + 1) + (2 * b + 1)) 1 w
    ∙ ap (λ (k : ℕ). ((2 * a + 1) + (2 * b + 1)) * w + k) one ∙ ap (λ (k : ℕ). k + w) (add-mul (2 * a + 1) (2 * b + 1) w)

rooms_more : (all b bs n w : ℕ) → all ≡ b + bs → rooms all (suc n) w ≡ rooms b 1 w + rooms bs n w
unfolding rooms
rooms_more all b bs n w is =
    let split : 2 * all + suc n ≡ (2 * b + 1) + (2 * bs + n) = omega (arith, is) in
    ap (λ (k : ℕ). k * w) split ∙ add-mul (2 * b + 1) (2 * bs + n) w

rooms_mono : (a b m n w : ℕ) → a ≤ b → m ≤ n → rooms a m w ≤ rooms b n w
unfolding rooms
rooms_mono a b m n w fewer less =
    let sum : 2 * a + m ≤ 2 * b + n = omega (arith, fewer, less) in
    mul-le-mul_right w sum

rooms_is : (b n w : ℕ) → rooms b n w ≡ (2 * b + n) * w
unfolding rooms
rooms_is b n w = refl

record EndShort (items lines w : ℕ) (e : End) : Type 0 where
  most : (above : ℕ → ℕ) → 7 + 5 * items + 10 * lines ≤ w → Ends lines above → ends_fit items lines e ≡ true → few_in_end items e ≡ true →
      length (ends_text e above) + (2 + 5 * items) ≤ rooms (end_count e) 1 w

record TreeShort (items lines w : ℕ) (t : Tree) : Type 0 where
  most : (above : ℕ → ℕ) → 7 + 5 * items + 10 * lines ≤ w → Ends lines above → tree_fits items lines t ≡ true → few_fixes items t ≡ true →
      length (tree_text t above) ≤ rooms (branch_count t) 1 w

bound_short : (items lines w : ℕ) (lam : List (ℕ × ℕ)) → EndShort items lines w (ends.Bound lam)
bound_short items lines w lam = record {
  most = (λ above node up fits few.
      let own = lam_length lines above lam up (sym (fits_bound items lines lam) ∙ fits) in
      let text : length (ends_text (ends.Bound lam) above) ≡ length (4 ∷ lam_text above lam) = ap (λ (x : List ℕ). length x) (text_bound lam above) in
      let room = rooms_one (end_count (ends.Bound lam)) w (count_bound lam) in
      bound_sum (length (ends_text (ends.Bound lam) above)) (length (lam_text above lam)) items lines w (rooms (end_count (ends.Bound lam)) 1 w) text own room node);
}
  where
    bound_sum : (all lams items lines w r : ℕ) → all ≡ suc lams → lams ≤ 2 + 10 * lines → r ≡ w → 7 + 5 * items + 10 * lines ≤ w → all + (2 + 5 * items) ≤ r
    bound_sum all lams items lines w r text own room node = omega (arith, text, own, room, node)

short_short : (items lines w : ℕ) (line : ℕ) → EndShort items lines w (ends.Short line)
short_short items lines w line = record {
  most = (λ above node up fits few.
      let text : length (ends_text (ends.Short line) above) ≡ 3 = ap (λ (x : List ℕ). length x) (text_short line above) in
      let room = rooms_one (end_count (ends.Short line)) w (count_short line) in
      short_sum (length (ends_text (ends.Short line) above)) items lines w (rooms (end_count (ends.Short line)) 1 w) text room node);
}
  where
    short_sum : (all items lines w r : ℕ) → all ≡ 3 → r ≡ w → 7 + 5 * items + 10 * lines ≤ w → all + (2 + 5 * items) ≤ r
    short_sum all items lines w r text room node = omega (arith, text, room, node)

branch_sum : (all lams one two items lines w a b r : ℕ) → all ≡ 3 + (lams + (one + two)) → lams ≤ 2 + 10 * lines → one ≤ a → two ≤ b → r ≡ a + b + w → 7 + 5 * items + 10 * lines ≤ w → all + (2 + 5 * items) ≤ r
branch_sum all lams one two items lines w a b r text own first second room node = omega (arith, text, own, first, second, room, node)

branch_text_length : (place lams inside outside : List ℕ) (n : ℕ) → length place ≡ 2 → n ≡ length (6 ∷ (place ++ (lams ++ (inside ++ outside)))) → n ≡ 3 + (length lams + (length inside + length outside))
branch_text_length place lams inside outside n two is =
    omega (arith, two, is, length-append place (lams ++ (inside ++ outside)), length-append lams (inside ++ outside), length-append inside outside)

branch_short : (items lines w : ℕ) (place : ℕ) (lam : List (ℕ × ℕ)) (inside outside : Tree) → TreeShort items lines w inside → TreeShort items lines w outside → EndShort items lines w (ends.Branch place lam inside outside)
branch_short items lines w place lam inside outside one two = record {
  most = (λ above node up fits few.
      let own = sym (fits_branch items lines place lam inside outside) ∙ fits in
      let a = and_parts (nat_lt place items && lam_fits lines lam && tree_fits items lines inside) (tree_fits items lines outside) own in
      let b = and_parts (nat_lt place items && lam_fits lines lam) (tree_fits items lines inside) a.0 in
      let c = and_parts (nat_lt place items) (lam_fits lines lam) b.0 in
      let f = and_parts (few_fixes items inside) (few_fixes items outside) (sym (few_branch items place lam inside outside) ∙ few) in
      let text = branch_text_length (two_bytes place) (lam_text above lam) (tree_text inside (multiplier lam)) (tree_text outside (multiplier lam))
      (length (ends_text (ends.Branch place lam inside outside) above)) refl (ap (λ (x : List ℕ). length x) (text_branch place lam inside outside above)) in
      branch_sum (length (ends_text (ends.Branch place lam inside outside) above)) (length (lam_text above lam)) (length (tree_text inside (multiplier lam))) (length (tree_text outside (multiplier lam)))
      items lines w (rooms (branch_count inside) 1 w) (rooms (branch_count outside) 1 w) (rooms (end_count (ends.Branch place lam inside outside)) 1 w) text
      (lam_length lines above lam up c.1)
      (one.most (multiplier lam) node (lam_ends lines lam c.1) b.1 f.0)
      (two.most (multiplier lam) node (lam_ends lines lam c.1) a.1 f.1)
      (rooms_branch (end_count (ends.Branch place lam inside outside)) (branch_count inside) (branch_count outside) w (count_branch place lam inside outside)) node);
}

node_sum : (all fixes ends items count r s : ℕ) → all ≡ 2 + fixes + ends → fixes ≤ 5 * count → count ≤ items → ends + (2 + 5 * items) ≤ r → s ≡ r → all ≤ s
node_sum all fixes ends items count r s text each most last room = omega (arith, text, each, most, last, room)

node_short : (items lines w : ℕ) (fixes : List Fix) (its_end : End) → EndShort items lines w its_end → TreeShort items lines w (record { fixes = fixes; end = its_end })
node_short items lines w fixes its_end ending = record {
  most = (λ above node up fits few.
      let own = sym (fits_node items lines fixes its_end) ∙ fits in
      let a = and_parts (nat_le (length fixes) 1024 && list_all (fix_fits items lines) fixes) (ends_fit items lines its_end) own in
      let f = and_parts (nat_le (length fixes) items) (few_in_end items its_end) (sym (few_of_node items fixes its_end) ∙ few) in
      let text : length (tree_text (record { fixes = fixes; end = its_end }) above) ≡ length (list_text fix_text fixes ++ ends_text its_end above) = ap (λ (x : List ℕ). length x) (text_node fixes its_end above) in
      let both = length-append (list_text fix_text fixes) (ends_text its_end above) in
      let front : length (list_text fix_text fixes) ≡ 2 + length (flat_map fix_text fixes) = omega arith in
      node_sum (length (tree_text (record { fixes = fixes; end = its_end }) above)) (length (flat_map fix_text fixes)) (length (ends_text its_end above)) items (length fixes)
      (rooms (end_count its_end) 1 w) (rooms (branch_count (record { fixes = fixes; end = its_end })) 1 w)
      (text ∙ both ∙ ap (λ (k : ℕ). k + length (ends_text its_end above)) front) (fixes_length fixes) (leb-true (length fixes) items f.0)
      (ending.most above node up a.1 f.1) (ap (λ (k : ℕ). rooms k 1 w) (count_node fixes its_end)));
}

ends_short : (items lines w : ℕ) (y : End-F ((e : End) × EndShort items lines w e) ((t : Tree) × TreeShort items lines w t)) → EndShort items lines w (roll-End (map-End _ _ End Tree (λ e. e.0) (λ t. t.0) y))
ends_short items lines w (End-F.Bound lam) = subst (EndShort items lines w) (sym (rolls-Bound lam)) (bound_short items lines w lam)
ends_short items lines w (End-F.Short line) = subst (EndShort items lines w) (sym (rolls-Short line)) (short_short items lines w line)
ends_short items lines w (End-F.Branch place lam inside outside) =
    subst (EndShort items lines w) (sym (rolls-Branch place lam inside.0 outside.0)) (branch_short items lines w place lam inside.0 outside.0 inside.1 outside.1)

nodes_short : (items lines w : ℕ) (y : Tree-F ((e : End) × EndShort items lines w e) ((t : Tree) × TreeShort items lines w t)) → TreeShort items lines w (roll-Tree (map-Tree _ _ End Tree (λ e. e.0) (λ t. t.0) y))
nodes_short items lines w y = subst (TreeShort items lines w) (sym (rolls-struct-Tree (record { fixes = y.fixes; end = y.end.0 }))) (node_short items lines w y.fixes y.end.0 y.end.1)

tree_short : (items lines w : ℕ) (t : Tree) → TreeShort items lines w t
tree_short items lines w = ind-Tree (EndShort items lines w) (TreeShort items lines w)
    (λ x y is. subst (λ z. EndShort items lines w (roll-End z)) is (ends_short items lines w y))
    (λ x y is. subst (λ z. TreeShort items lines w (roll-Tree z)) is (nodes_short items lines w y))

-- ---- parts

abbrev members_of : List Part → ℕ
members_of parts = sum_by (λ (p : Part). length p.members) parts

zero_ends : (lines : ℕ) → Ends lines all_zero
zero_ends lines = record { past = (λ l past. refl) }

part_sum : (all places tree n r : ℕ) → all ≡ places + (8 + tree) → places ≡ 2 + 2 * n → tree ≤ r → all ≤ 10 + 2 * n + r
part_sum all places tree n r text front most = omega (arith, text, front, most)

part_length : (items lines w : ℕ) (part : Part) → 7 + 5 * items + 10 * lines ≤ w → PartFits items lines part → few_fixes items part.tree ≡ true →
    length (part_text part) ≤ 10 + 2 * length part.members + rooms (branch_count part.tree) 1 w
part_length items lines w part node fits few =
    part_sum (length (part_text part)) (length (places_text part.members)) (length (tree_text part.tree all_zero)) (length part.members) (rooms (branch_count part.tree) 1 w)
    (length-append (places_text part.members) (eight_bytes part.bound ++ tree_text part.tree all_zero)
    ∙ ap (λ (k : ℕ). length (places_text part.members) + k) (length-append (eight_bytes part.bound) (tree_text part.tree all_zero)))
    (places_length part.members) ((tree_short items lines w part.tree).most all_zero node (zero_ends lines) fits.tree few)

parts_sum : (all one more n m ms r rs k : ℕ) (room members : ℕ) → all ≡ one + more → one ≤ 10 + 2 * m + r → more ≤ 10 * n + 2 * ms + rs → k ≡ suc n → members ≡ m + ms → room ≡ r + rs →
    all ≤ 10 * k + 2 * members + room
parts_sum all one more n m ms r rs k room members text first others count both rooms_are = omega (arith, text, first, others, count, both, rooms_are)

parts_length : (items lines w : ℕ) (parts : List Part) → 7 + 5 * items + 10 * lines ≤ w → AllByRecursion (PartFits items lines) parts → AllByRecursion (λ part. few_fixes items part.tree ≡ true) parts →
    length (flat_map part_text parts) ≤ 10 * length parts + 2 * members_of parts + rooms (branches_of parts) (length parts) w
parts_length items lines w [] node fits few = omega arith
parts_length items lines w (part ∷ parts) node fits few =
    parts_sum (length (flat_map part_text (part ∷ parts))) (length (part_text part)) (length (flat_map part_text parts)) (length parts) (length part.members) (members_of parts)
    (rooms (branch_count part.tree) 1 w) (rooms (branches_of parts) (length parts) w) (suc (length parts)) (rooms (branches_of (part ∷ parts)) (suc (length parts)) w) (members_of (part ∷ parts))
    (ap (λ (x : List ℕ). length x) (flat_map-cons part_text part parts) ∙ length-append (part_text part) (flat_map part_text parts))
    (part_length items lines w part node fits.0 few.0) (parts_length items lines w parts node fits.1 few.1) refl
    (sum_by-cons (λ (p : Part). length p.members) part parts)
    (rooms_more (branches_of (part ∷ parts)) (branch_count part.tree) (branches_of parts) (length parts) w (sum_by-cons (λ (p : Part). branch_count p.tree) part parts))

first_low : (items lines : ℕ) (part : Part) → PartFits items lines part → first_member part < items
first_low items lines part fits = fits.members.in_range 0 0 fits.some

choice_sum : (all places parts set n members r s items : ℕ) → all ≡ places + (2 + parts) → places ≡ 2 + 2 * set → parts ≤ 10 * n + 2 * members + r → set ≤ items → n ≤ items → members ≤ items → r ≤ s →
    all ≤ 4 + 14 * items + s
choice_sum all places parts set n members r s items text front most few count fewer room = omega (arith, text, front, most, few, count, fewer, room)

choice_length : (items lines budget w : ℕ) (choice : Choice) → 7 + 5 * items + 10 * lines ≤ w → IsSized items lines budget choice →
    length (choice_text choice) ≤ 4 + 14 * items + rooms budget items w
choice_length items lines budget w choice node sized =
    let count = short_list first_member items choice.parts sized.fits.order (λ k d below. first_low items lines _ (sized.fits.parts k d below)) in
    let behind : length (list_text part_text choice.parts) ≡ 2 + length (flat_map part_text choice.parts) = omega arith in
    choice_sum (length (choice_text choice)) (length (places_text choice.places)) (length (flat_map part_text choice.parts)) (length choice.places) (length choice.parts) (members_of choice.parts)
    (rooms (branches_of choice.parts) (length choice.parts) w) (rooms budget items w) items
    (length-append (places_text choice.places) (list_text part_text choice.parts) ∙ ap (λ (k : ℕ). length (places_text choice.places) + k) behind)
    (places_length choice.places)
    (parts_length items lines w choice.parts node (recursion_from_All (PartFits items lines) choice.parts sized.fits.parts)
    (recursion_from_All (λ (part : Part). few_fixes items part.tree ≡ true) choice.parts sized.fixes))
    (short_list (λ (k : ℕ). k) items choice.places sized.fits.set.rising sized.fits.set.in_range) count sized.members
    (rooms_mono (branches_of choice.parts) budget (length choice.parts) items w sized.branches count)

option_length : (items lines budget w : ℕ) (choice : Option Choice) → 7 + 5 * items + 10 * lines ≤ w → IfSome choice (IsSized items lines budget) → length (option_text choice) ≤ 5 + 14 * items + rooms budget items w
option_length items lines budget w None node sized = omega arith
option_length items lines budget w (Some choice) node sized = let all = choice_length items lines budget w choice node sized in omega (arith, all)

record_sum : (e : EntryRecord) → length (record_text e) ≡ 3 + (length e.line + length (option_text e.choice))
record_sum e =
    let both = length-append e.line (option_text e.choice) in
    let front : length (record_text e) ≡ 3 + length (e.line ++ option_text e.choice) = omega arith in
    omega (arith, front, both)

pub record_length : (items lines budget : ℕ) (e : EntryRecord) → IfSome e.choice (IsSized items lines budget) → length (record_text e) ≤ longest (length e.line) items lines budget
record_length items lines budget e sized =
    let node : 7 + 5 * items + 10 * lines ≤ 7 + 5 * items + 10 * lines = omega arith in
    let own = option_length items lines budget (7 + 5 * items + 10 * lines) e.choice node sized in
    let all = record_sum e in
    let most : length (record_text e) ≤ length e.line + 8 + 14 * items + rooms budget items (7 + 5 * items + 10 * lines) = omega (arith, own, all) in
    subst (λ (r : ℕ). length (record_text e) ≤ length e.line + 8 + 14 * items + r) (rooms_is budget items (7 + 5 * items + 10 * lines)) most

pub plain_length : (e : EntryRecord) → e.choice ≡ None → length (record_text e) ≡ length e.line + 4
plain_length e none =
    let own : length (option_text e.choice) ≡ 1 = ap (λ (o : Option Choice). length (option_text o)) none in
    let all = record_sum e in
    omega (arith, own, all)
