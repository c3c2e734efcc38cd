use Rattle.std.proofs.Common.{◌≡◌, ℕ, Bool, true, ◌&&◌, List, [], ◌∷◌, length, refl, sym, ◌∙◌, subst}
use Rattle.std.specs.Prelude.{◌^◌, nat_lt, nat_le, map}
use Rattle.std.specs.List.{list_all}
use Rattle.std.proofs.lemmas.Bool.{and_from, and_parts}
use Rattle.dali_tree.specs.declared.tree.Tree.{Tree}
use Rattle.dali_tree.specs.declared.tree.End.{End}
use Rattle.dali_tree.specs.declared.tree.End.TheOpen.{Tree-F, End-F}
use Rattle.dali_tree.specs.declared.tree.End.TheFolds.{fold-roll-End, fold-roll-Tree, ind-Tree, map-End, map-Tree}
use Rattle.dali_tree.specs.declared.tree.End.TheViews.{roll-End, roll-Tree}
use Rattle.dali_tree.specs.declared.choice.Part.{Part}
use Rattle.dali_tree.specs.declared.choice.Choice.{Choice}
use Rattle.dali_tree.specs.Ends.{ends_fit, ends_in_range}
use Rattle.dali_tree.specs.Fits.{fix_fits, multiplier_fits, is_rising, lam_fits, end_fits, tree_fits, PartFits, Fits}
use Rattle.dali_tree.specs.Range.{multiplier_in_range, lam_in_range, end_in_range, tree_in_range, IsPartInRange, IsInRange}

list_all_weaker : {X : Type 0} (f g : X → Bool) (xs : List X) → ((x : X) → f x ≡ true → g x ≡ true) → list_all f xs ≡ true → list_all g xs ≡ true
list_all_weaker f g [] weaker told = refl
list_all_weaker f g (x ∷ xs) weaker told =
    let both = and_parts (f x) (list_all f xs) told in
    and_from (g x) (list_all g xs) (weaker x both.0) (list_all_weaker f g xs weaker both.1)

pub lam_ranges : (lines : ℕ) (lam : List (ℕ × ℕ)) → lam_fits lines lam ≡ true → lam_in_range lines lam ≡ true
lam_ranges lines lam told =
    let both = and_parts (list_all (multiplier_fits lines) lam) (is_rising (map (λ (m : ℕ × ℕ). m.0) lam)) told in
    and_from (list_all (multiplier_in_range lines) lam) (is_rising (map (λ (m : ℕ × ℕ). m.0) lam))
    (list_all_weaker (multiplier_fits lines) (multiplier_in_range lines) lam one both.0) both.1
  where
    one : (m : ℕ × ℕ) → multiplier_fits lines m ≡ true → multiplier_in_range lines m ≡ true
    one m fits =
        let parts = and_parts (nat_lt m.0 lines && nat_le 1 m.1) (nat_le m.1 (2 ^ 44)) fits in
        and_from (nat_lt m.0 lines) (nat_le m.1 (2 ^ 44)) (and_parts (nat_lt m.0 lines) (nat_le 1 m.1) parts.0).0 parts.1

record EndKeeps (items lines : ℕ) (e : End) : Type 0 where
  kept : ends_fit items lines e ≡ true → ends_in_range items lines e ≡ true

record TreeKeeps (items lines : ℕ) (t : Tree) : Type 0 where
  kept : tree_fits items lines t ≡ true → tree_in_range items lines t ≡ true

abbrev fits_at : ℕ → ℕ → Tree-F Bool Bool → Bool
fits_at items lines node = nat_le (length node.fixes) 1024 && list_all (fix_fits items lines) node.fixes && node.end

abbrev ranges_at : ℕ → ℕ → Tree-F Bool Bool → Bool
ranges_at items lines node = list_all (fix_fits items lines) node.fixes && node.end

ends_fit_is : (items lines : ℕ) (x : End-F End Tree) →
    ends_fit items lines (roll-End x) ≡ end_fits items lines (map-End End Tree Bool Bool (ends_fit items lines) (tree_fits items lines) x)
ends_fit_is items lines x = fold-roll-End Bool Bool (end_fits items lines) (fits_at items lines) x

ends_range_is : (items lines : ℕ) (x : End-F End Tree) →
    ends_in_range items lines (roll-End x) ≡ end_in_range items lines (map-End End Tree Bool Bool (ends_in_range items lines) (tree_in_range items lines) x)
ends_range_is items lines x = fold-roll-End Bool Bool (end_in_range items lines) (ranges_at items lines) x

tree_fits_is : (items lines : ℕ) (x : Tree-F End Tree) →
    tree_fits items lines (roll-Tree x) ≡ fits_at items lines (map-Tree End Tree Bool Bool (ends_fit items lines) (tree_fits items lines) x)
tree_fits_is items lines x = fold-roll-Tree Bool Bool (end_fits items lines) (fits_at items lines) x

tree_range_is : (items lines : ℕ) (x : Tree-F End Tree) →
    tree_in_range items lines (roll-Tree x) ≡ ranges_at items lines (map-Tree End Tree Bool Bool (ends_in_range items lines) (tree_in_range items lines) x)
tree_range_is items lines x = fold-roll-Tree Bool Bool (end_in_range items lines) (ranges_at items lines) x

ends_keep : (items lines : ℕ) (y : End-F ((e : End) × EndKeeps items lines e) ((t : Tree) × TreeKeeps items lines t)) →
    EndKeeps items lines (roll-End (map-End _ _ End Tree (λ e. e.0) (λ t. t.0) y))
ends_keep items lines (End-F.Bound lam) = record {
  kept = (λ told. ends_range_is items lines (End-F.Bound lam) ∙ lam_ranges lines lam (sym (ends_fit_is items lines (End-F.Bound lam)) ∙ told));
}
ends_keep items lines (End-F.Short line) = record {
  kept = (λ told. ends_range_is items lines (End-F.Short line) ∙ (sym (ends_fit_is items lines (End-F.Short line)) ∙ told));
}
ends_keep items lines (End-F.Branch place lam inside outside) = record {
  kept = (λ told.
      let all = and_parts (nat_lt place items && lam_fits lines lam && tree_fits items lines inside.0) (tree_fits items lines outside.0)
      (sym (ends_fit_is items lines (End-F.Branch place lam inside.0 outside.0)) ∙ told) in
      let three = and_parts (nat_lt place items && lam_fits lines lam) (tree_fits items lines inside.0) all.0 in
      let two = and_parts (nat_lt place items) (lam_fits lines lam) three.0 in
      ends_range_is items lines (End-F.Branch place lam inside.0 outside.0)
      ∙ and_from (nat_lt place items && lam_in_range lines lam && tree_in_range items lines inside.0) (tree_in_range items lines outside.0)
      (and_from (nat_lt place items && lam_in_range lines lam) (tree_in_range items lines inside.0)
      (and_from (nat_lt place items) (lam_in_range lines lam) two.0 (lam_ranges lines lam two.1)) (inside.1.kept three.1))
      (outside.1.kept all.1));
}

trees_keep : (items lines : ℕ) (y : Tree-F ((e : End) × EndKeeps items lines e) ((t : Tree) × TreeKeeps items lines t)) →
    TreeKeeps items lines (roll-Tree (map-Tree _ _ End Tree (λ e. e.0) (λ t. t.0) y))
trees_keep items lines y = record {
  kept = (λ told.
      let both = and_parts (nat_le (length y.fixes) 1024 && list_all (fix_fits items lines) y.fixes) (ends_fit items lines y.end.0)
      (sym (tree_fits_is items lines (map-Tree _ _ End Tree (λ e. e.0) (λ t. t.0) y)) ∙ told) in
      let fixes = and_parts (nat_le (length y.fixes) 1024) (list_all (fix_fits items lines) y.fixes) both.0 in
      tree_range_is items lines (map-Tree _ _ End Tree (λ e. e.0) (λ t. t.0) y)
      ∙ and_from (list_all (fix_fits items lines) y.fixes) (ends_in_range items lines y.end.0) fixes.1 (y.end.1.kept both.1));
}

-- a tree that fits is in range
tree_ranges : (items lines : ℕ) (tree : Tree) → TreeKeeps items lines tree
tree_ranges items lines = ind-Tree (EndKeeps items lines) (TreeKeeps items lines)
    (λ x y is. subst (λ z. EndKeeps items lines (roll-End z)) is (ends_keep items lines y))
    (λ x y is. subst (λ z. TreeKeeps items lines (roll-Tree z)) is (trees_keep items lines y))

pub part_ranges : (items lines : ℕ) (part : Part) → PartFits items lines part → IsPartInRange items lines part
part_ranges items lines part fits = record {
  members = fits.members;
  tree = (tree_ranges items lines part.tree).kept fits.tree;
  depth = fits.depth;
}

-- a choice that fits is in range
pub choice_ranges : (items lines : ℕ) (choice : Choice) → Fits items lines choice → IsInRange items lines choice
choice_ranges items lines choice fits = record {
  set = fits.set;
  parts = (λ k d below. part_ranges items lines _ (fits.parts k d below));
}
