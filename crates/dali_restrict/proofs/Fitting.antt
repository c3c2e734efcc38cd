use Rattle.std.proofs.Common.{◌≡◌, ℕ, ◌+◌, ◌<◌, Bool, true, ◌&&◌, ltb, leb, List, [], ◌∷◌, length, map, get_or, refl, ap, sym, ◌∙◌, subst, arith}
use Rattle.std.specs.Prelude.{◌^◌, max}
use Rattle.std.specs.List.{list_all}
use Rattle.std.proofs.lemmas.Bool.{and_from, and_parts}
use Rattle.std.proofs.lemmas.List.{length-map, get_or-map}
use Rattle.dali_tree.specs.declared.fix.Fix.{Fix}
use Rattle.dali_tree.specs.declared.fix.Fix.TheVariants.{Barred, Needed, Safe}
use Rattle.dali_tree.specs.declared.tree.Tree.{Tree}
use Rattle.dali_tree.specs.declared.tree.End.{End}
use Rattle.dali_tree.specs.declared.tree.End.TheOpen.{Tree-F, End-F}
use Rattle.dali_tree.specs.declared.tree.End.TheFolds.{fold-roll-End, fold-roll-Tree, ind-Tree, map-End, map-Tree}
use Rattle.dali_tree.specs.declared.tree.End.TheViews.{roll-End, roll-Tree}
use Rattle.dali_tree.specs.declared.choice.Part.{Part}
use Rattle.dali_tree.specs.Tree.{count_step, depth_step, branch_count, branch_depth}
use Rattle.dali_tree.specs.Fits.{fix_fits, is_rising, multiplier_fits, lam_fits, end_fits, tree_fits, AreRising, PartFits}
use Rattle.dali_tree.specs.Ends.{end_count, end_depth, ends_fit}
use Rattle.dali_restrict.specs.Restriction.{old_of}
use Rattle.dali_restrict.specs.Widened.{wide_fix, wide_pair, wide_lam, wide_tree, wide_ends, wide_part}
use Rattle.dali_restrict.proofs.Spread.{IsRise, old_below, old_order}
use Rattle.dali_restrict.proofs.Trees.{ends_bound, ends_short, ends_branch, tree_node}

told_less : (a b : ℕ) → ltb a b ≡ true → a < b
told_less a b told = grind arith

less_told : (a b : ℕ) → a < b → ltb a b ≡ true
less_told a b less = grind arith

-- what fits the restriction fits the whole, with the old numbers
module _ (n m : ℕ) (places lines : List ℕ) (rise : IsRise n places) (rows : IsRise m lines) where
  place_fits : (i : ℕ) → ltb i (length places) ≡ true → ltb (old_of places i) n ≡ true
  place_fits i told = less_told (old_of places i) n (old_below n places i rise (told_less i (length places) told))

  line_fits : (k : ℕ) → ltb k (length lines) ≡ true → ltb (old_of lines k) m ≡ true
  line_fits k told = less_told (old_of lines k) m (old_below m lines k rows (told_less k (length lines) told))

  one_fix : (fix : Fix) → fix_fits (length places) (length lines) fix ≡ true → fix_fits n m (wide_fix places lines fix) ≡ true
  one_fix (Barred j l) told =
      let two = and_parts (ltb j (length places)) (ltb l (length lines)) told in
      and_from (ltb (old_of places j) n) (ltb (old_of lines l) m) (place_fits j two.0) (line_fits l two.1)
  one_fix (Needed j l) told =
      let two = and_parts (ltb j (length places)) (ltb l (length lines)) told in
      and_from (ltb (old_of places j) n) (ltb (old_of lines l) m) (place_fits j two.0) (line_fits l two.1)
  one_fix (Safe j) told = place_fits j told

  all_fixes : (fixes : List Fix) → list_all (fix_fits (length places) (length lines)) fixes ≡ true → list_all (fix_fits n m) (map (wide_fix places lines) fixes) ≡ true
  all_fixes [] told = refl
  all_fixes (fix ∷ fixes) told =
      let two = and_parts (fix_fits (length places) (length lines) fix) (list_all (fix_fits (length places) (length lines)) fixes) told in
      and_from (fix_fits n m (wide_fix places lines fix)) (list_all (fix_fits n m) (map (wide_fix places lines) fixes)) (one_fix fix two.0) (all_fixes fixes two.1)

  all_multipliers : (lam : List (ℕ × ℕ)) → list_all (multiplier_fits (length lines)) lam ≡ true → list_all (multiplier_fits m) (wide_lam lines lam) ≡ true
  all_multipliers [] told = refl
  all_multipliers (x ∷ lam) told =
      let two = and_parts (multiplier_fits (length lines) x) (list_all (multiplier_fits (length lines)) lam) told in
      let three = and_parts (ltb x.0 (length lines) && leb 1 x.1) (leb x.1 (2 ^ 44)) two.0 in
      let four = and_parts (ltb x.0 (length lines)) (leb 1 x.1) three.0 in
      and_from (multiplier_fits m (wide_pair lines x)) (list_all (multiplier_fits m) (wide_lam lines lam))
      (and_from (ltb (old_of lines x.0) m && leb 1 x.1) (leb x.1 (2 ^ 44)) (and_from (ltb (old_of lines x.0) m) (leb 1 x.1) (line_fits x.0 four.0) four.1) three.1)
      (all_multipliers lam two.1)

  later_rise : (k : ℕ) (lam : List (ℕ × ℕ)) → ltb k (length lines) ≡ true → list_all (multiplier_fits (length lines)) lam ≡ true →
      list_all (ltb k) (map (λ (x : ℕ × ℕ). x.0) lam) ≡ true → list_all (ltb (old_of lines k)) (map (λ (x : ℕ × ℕ). x.0) (wide_lam lines lam)) ≡ true
  later_rise k [] own fit told = refl
  later_rise k (x ∷ lam) own fit told =
      let two = and_parts (ltb k x.0) (list_all (ltb k) (map (λ (y : ℕ × ℕ). y.0) lam)) told in
      let fits = and_parts (multiplier_fits (length lines) x) (list_all (multiplier_fits (length lines)) lam) fit in
      let three = and_parts (ltb x.0 (length lines) && leb 1 x.1) (leb x.1 (2 ^ 44)) fits.0 in
      let four = and_parts (ltb x.0 (length lines)) (leb 1 x.1) three.0 in
      and_from (ltb (old_of lines k) (old_of lines x.0)) (list_all (ltb (old_of lines k)) (map (λ (y : ℕ × ℕ). y.0) (wide_lam lines lam)))
      (old_order m lines k x.0 rows (told_less k (length lines) own) (told_less x.0 (length lines) four.0) ∙ two.0) (later_rise k lam own fits.1 two.1)

  all_rise : (lam : List (ℕ × ℕ)) → list_all (multiplier_fits (length lines)) lam ≡ true → is_rising (map (λ (x : ℕ × ℕ). x.0) lam) ≡ true →
      is_rising (map (λ (x : ℕ × ℕ). x.0) (wide_lam lines lam)) ≡ true
  all_rise [] fit told = refl
  all_rise (x ∷ lam) fit told =
      let two = and_parts (list_all (ltb x.0) (map (λ (y : ℕ × ℕ). y.0) lam)) (is_rising (map (λ (y : ℕ × ℕ). y.0) lam)) told in
      let fits = and_parts (multiplier_fits (length lines) x) (list_all (multiplier_fits (length lines)) lam) fit in
      let three = and_parts (ltb x.0 (length lines) && leb 1 x.1) (leb x.1 (2 ^ 44)) fits.0 in
      let four = and_parts (ltb x.0 (length lines)) (leb 1 x.1) three.0 in
      and_from (list_all (ltb (old_of lines x.0)) (map (λ (y : ℕ × ℕ). y.0) (wide_lam lines lam))) (is_rising (map (λ (y : ℕ × ℕ). y.0) (wide_lam lines lam)))
      (later_rise x.0 lam four.0 fits.1 two.0) (all_rise lam fits.1 two.1)

  one_lam : (lam : List (ℕ × ℕ)) → lam_fits (length lines) lam ≡ true → lam_fits m (wide_lam lines lam) ≡ true
  one_lam lam told =
      let two = and_parts (list_all (multiplier_fits (length lines)) lam) (is_rising (map (λ (x : ℕ × ℕ). x.0) lam)) told in
      and_from (list_all (multiplier_fits m) (wide_lam lines lam)) (is_rising (map (λ (x : ℕ × ℕ). x.0) (wide_lam lines lam)))
      (all_multipliers lam two.0) (all_rise lam two.0 two.1)

abbrev fits_at : ℕ → ℕ → Tree-F Bool Bool → Bool
fits_at items lines node = leb (length node.fixes) 1024 && list_all (fix_fits items lines) node.fixes && node.end

fits_end : (items lines : ℕ) (x : End-F End Tree) → ends_fit items lines (roll-End x) ≡ end_fits items lines (map-End End Tree Bool Bool (ends_fit items lines) (tree_fits items lines) x)
fits_end items lines x = fold-roll-End Bool Bool (end_fits items lines) (fits_at items lines) x

fits_tree : (items lines : ℕ) (x : Tree-F End Tree) → tree_fits items lines (roll-Tree x) ≡ fits_at items lines (map-Tree End Tree Bool Bool (ends_fit items lines) (tree_fits items lines) x)
fits_tree items lines x = fold-roll-Tree Bool Bool (end_fits items lines) (fits_at items lines) x

count_end : (x : End-F End Tree) → end_count (roll-End x) ≡ count_step (map-End End Tree ℕ ℕ end_count branch_count x)
count_end x = fold-roll-End ℕ ℕ count_step (λ node. node.end) x

count_tree : (x : Tree-F End Tree) → branch_count (roll-Tree x) ≡ end_count x.end
count_tree x = fold-roll-Tree ℕ ℕ count_step (λ node. node.end) x

depth_end : (x : End-F End Tree) → end_depth (roll-End x) ≡ depth_step (map-End End Tree ℕ ℕ end_depth branch_depth x)
depth_end x = fold-roll-End ℕ ℕ depth_step (λ node. node.end) x

depth_tree : (x : Tree-F End Tree) → branch_depth (roll-Tree x) ≡ end_depth x.end
depth_tree x = fold-roll-Tree ℕ ℕ depth_step (λ node. node.end) x

record EndWidens (n m : ℕ) (places lines : List ℕ) (e : End) : Type 0 where
  fits : ends_fit (length places) (length lines) e ≡ true → ends_fit n m (wide_ends places lines e) ≡ true
  count : end_count (wide_ends places lines e) ≡ end_count e
  depth : end_depth (wide_ends places lines e) ≡ end_depth e

pub record TreeWidens (n m : ℕ) (places lines : List ℕ) (t : Tree) : Type 0 where
  pub fits : tree_fits (length places) (length lines) t ≡ true → tree_fits n m (wide_tree places lines t) ≡ true
  pub count : branch_count (wide_tree places lines t) ≡ branch_count t
  pub depth : branch_depth (wide_tree places lines t) ≡ branch_depth t

ends_widen : (n m : ℕ) (places lines : List ℕ) → IsRise n places → IsRise m lines →
    (y : End-F ((e : End) × EndWidens n m places lines e) ((t : Tree) × TreeWidens n m places lines t)) →
    EndWidens n m places lines (roll-End (map-End _ _ End Tree (λ e. e.0) (λ t. t.0) y))
ends_widen n m places lines rise rows (End-F.Bound lam) = record {
  fits = (λ told. ap (ends_fit n m) (ends_bound places lines lam) ∙ fits_end n m (End-F.Bound (wide_lam lines lam))
      ∙ one_lam n m places lines rise rows lam (sym (fits_end (length places) (length lines) (End-F.Bound lam)) ∙ told));
  count = ap end_count (ends_bound places lines lam) ∙ count_end (End-F.Bound (wide_lam lines lam)) ∙ sym (count_end (End-F.Bound lam));
  depth = ap end_depth (ends_bound places lines lam) ∙ depth_end (End-F.Bound (wide_lam lines lam)) ∙ sym (depth_end (End-F.Bound lam));
}
ends_widen n m places lines rise rows (End-F.Short line) = record {
  fits = (λ told. ap (ends_fit n m) (ends_short places lines line) ∙ fits_end n m (End-F.Short (old_of lines line))
      ∙ line_fits n m places lines rise rows line (sym (fits_end (length places) (length lines) (End-F.Short line)) ∙ told));
  count = ap end_count (ends_short places lines line) ∙ count_end (End-F.Short (old_of lines line)) ∙ sym (count_end (End-F.Short line));
  depth = ap end_depth (ends_short places lines line) ∙ depth_end (End-F.Short (old_of lines line)) ∙ sym (depth_end (End-F.Short line));
}
ends_widen n m places lines rise rows (End-F.Branch place lam inside outside) =
    let to : End-F End Tree = End-F.Branch (old_of places place) (wide_lam lines lam) (wide_tree places lines inside.0) (wide_tree places lines outside.0) in
    let from : End-F End Tree = End-F.Branch place lam inside.0 outside.0 in
    record {
      fits = (λ told.
          let all = and_parts (ltb place (length places) && lam_fits (length lines) lam && tree_fits (length places) (length lines) inside.0) (tree_fits (length places) (length lines) outside.0)
          (sym (fits_end (length places) (length lines) from) ∙ told) in
          let three = and_parts (ltb place (length places) && lam_fits (length lines) lam) (tree_fits (length places) (length lines) inside.0) all.0 in
          let two = and_parts (ltb place (length places)) (lam_fits (length lines) lam) three.0 in
          ap (ends_fit n m) (ends_branch places lines place lam inside.0 outside.0) ∙ fits_end n m to
          ∙ and_from (ltb (old_of places place) n && lam_fits m (wide_lam lines lam) && tree_fits n m (wide_tree places lines inside.0)) (tree_fits n m (wide_tree places lines outside.0))
          (and_from (ltb (old_of places place) n && lam_fits m (wide_lam lines lam)) (tree_fits n m (wide_tree places lines inside.0))
          (and_from (ltb (old_of places place) n) (lam_fits m (wide_lam lines lam)) (place_fits n m places lines rise rows place two.0) (one_lam n m places lines rise rows lam two.1))
          (inside.1.fits three.1))
          (outside.1.fits all.1));
      count = ap end_count (ends_branch places lines place lam inside.0 outside.0) ∙ count_end to
          ∙ (omega (arith, inside.1.count, outside.1.count)) ∙ sym (count_end from);
      depth = ap end_depth (ends_branch places lines place lam inside.0 outside.0) ∙ depth_end to
          ∙ ap (λ k. max k (branch_depth (wide_tree places lines outside.0)) + 1) inside.1.depth
          ∙ ap (λ k. max (branch_depth inside.0) k + 1) outside.1.depth ∙ sym (depth_end from);
    }

trees_widen : (n m : ℕ) (places lines : List ℕ) → IsRise n places → IsRise m lines →
    (y : Tree-F ((e : End) × EndWidens n m places lines e) ((t : Tree) × TreeWidens n m places lines t)) →
    TreeWidens n m places lines (roll-Tree (map-Tree _ _ End Tree (λ e. e.0) (λ t. t.0) y))
trees_widen n m places lines rise rows y =
    let from : Tree-F End Tree = map-Tree _ _ End Tree (λ e. e.0) (λ t. t.0) y in
    let to : Tree-F End Tree = record { fixes = map (wide_fix places lines) y.fixes; end = wide_ends places lines y.end.0 } in
    record {
      fits = (λ told.
          let both = and_parts (leb (length y.fixes) 1024 && list_all (fix_fits (length places) (length lines)) y.fixes) (ends_fit (length places) (length lines) y.end.0)
          (sym (fits_tree (length places) (length lines) from) ∙ told) in
          let fixes = and_parts (leb (length y.fixes) 1024) (list_all (fix_fits (length places) (length lines)) y.fixes) both.0 in
          ap (tree_fits n m) (tree_node places lines from) ∙ fits_tree n m to
          ∙ and_from (leb (length (map (wide_fix places lines) y.fixes)) 1024 && list_all (fix_fits n m) (map (wide_fix places lines) y.fixes)) (ends_fit n m (wide_ends places lines y.end.0))
          (and_from (leb (length (map (wide_fix places lines) y.fixes)) 1024) (list_all (fix_fits n m) (map (wide_fix places lines) y.fixes))
          (ap (λ k. leb k 1024) (length-map y.fixes (wide_fix places lines)) ∙ fixes.0) (all_fixes n m places lines rise rows y.fixes fixes.1))
          (y.end.1.fits both.1));
      count = ap branch_count (tree_node places lines from) ∙ count_tree to ∙ y.end.1.count ∙ sym (count_tree from);
      depth = ap branch_depth (tree_node places lines from) ∙ depth_tree to ∙ y.end.1.depth ∙ sym (depth_tree from);
    }

pub tree_widens : (n m : ℕ) (places lines : List ℕ) → IsRise n places → IsRise m lines → (tree : Tree) → TreeWidens n m places lines tree
tree_widens n m places lines rise rows = ind-Tree (EndWidens n m places lines) (TreeWidens n m places lines)
    (λ x y is. subst (λ z. EndWidens n m places lines (roll-End z)) is (ends_widen n m places lines rise rows y))
    (λ x y is. subst (λ z. TreeWidens n m places lines (roll-Tree z)) is (trees_widen n m places lines rise rows y))

-- a list of rising places of the restriction rises with the old numbers
pub rising_wide : (n : ℕ) (places xs : List ℕ) → IsRise n places → AreRising (length places) xs → AreRising n (map (old_of places) xs)
rising_wide n places xs rise are = record {
  rising = (λ a b d before within.
      let last : b < length xs = omega (arith, within, length-map xs (old_of places)) in
      let up = rise.rising (get_or xs a 0) (get_or xs b 0) 0 (are.rising a b 0 before last) (are.in_range b 0 last) in
      let one : get_or (map (old_of places) xs) a d ≡ old_of places (get_or xs a 0) = get_or-map (old_of places) xs a 0 d (omega (arith, before, last)) in
      let two : get_or (map (old_of places) xs) b d ≡ old_of places (get_or xs b 0) = get_or-map (old_of places) xs b 0 d last in
      omega (arith, up, one, two));
  in_range = (λ a d within.
      let first : a < length xs = omega (arith, within, length-map xs (old_of places)) in
      let one : get_or (map (old_of places) xs) a d ≡ old_of places (get_or xs a 0) = get_or-map (old_of places) xs a 0 d first in
      omega (arith, one, old_below n places (get_or xs a 0) rise (are.in_range a 0 first)));
}

pub part_widens : (n m : ℕ) (places lines : List ℕ) (part : Part) → IsRise n places → IsRise m lines → PartFits (length places) (length lines) part →
    PartFits n m (wide_part places lines part)
part_widens n m places lines part rise rows fits =
    let widens = tree_widens n m places lines rise rows part.tree in
    record {
      some = omega (arith, fits.some, length-map part.members (old_of places));
      members = rising_wide n places part.members rise fits.members;
      bound = fits.bound;
      tree = widens.fits fits.tree;
      depth = omega (arith, fits.depth, widens.depth);
    }
