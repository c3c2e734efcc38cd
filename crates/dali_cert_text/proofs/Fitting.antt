use Rattle.std.proofs.Common.{◌≡◌, ◌∙◌, ℕ, ◌+◌, ◌<◌, ◌≤◌, Bool, true, List, [], ◌∷◌, ◌++◌, length, max, refl, sym, ap, arith, append_assoc, map, ◌&&◌}
use Rattle.std.proofs.lemmas.Bool.Decides.{nat_tests}
use Rattle.std.proofs.lemmas.List.{append-nil}
use Rattle.std.specs.Prelude.{nat_lt, nat_le}
use Rattle.std.specs.List.{list_all}
use Rattle.dali_base.proofs.Spelled.{both}
use Rattle.dali_tree.specs.declared.fix.Fix.{Fix}
use Rattle.dali_tree.specs.declared.tree.Tree.{Tree}
use Rattle.dali_tree.specs.declared.tree.End.{End}
use Rattle.dali_tree.specs.declared.tree.End.TheOpen.{End-F}
use Rattle.dali_tree.specs.declared.tree.End.TheFolds.{map-End}
use Rattle.dali_tree.specs.Fits.{fix_fits, lam_fits, end_fits, tree_fits}
use Rattle.dali_tree.specs.Tree.{branch_depth}
use Rattle.dali_tree.specs.Ends.{ends_fit}
use Rattle.dali_cert_text.specs.declared.growth.Frame.{Frame}
use Rattle.dali_cert_text.specs.declared.growth.Frame.TheVariants as frames
use Rattle.dali_cert_text.specs.declared.growth.Growth.{Growth}
use Rattle.dali_cert_text.specs.declared.growth.Growth.TheVariants.{Open, Grown}
use Rattle.dali_cert_print.specs.declared.row.Row.{Row}
use Rattle.dali_cert_print.specs.declared.row.Row.TheVariants as rows
use Rattle.dali_cert_print.specs.Block.{tree_rows}
use Rattle.dali_cert_text.specs.Growth.{tree_of, grown}
use Rattle.dali_cert_text.proofs.Rowing.{frames_rows, rows_of_tree, depth_of, fits_of}

-- That what grows fits, and can be closed.

less_of : (a b c : ℕ) → a + c ≤ 1024 → b + c ≤ 1024 → max a b + c ≤ 1024
less_of a b c one two = omega arith

le_told : (n m : ℕ) → n ≤ m → nat_le n m ≡ true
le_told n m le = grind (arith, nat_tests, le)

told_le : (n m : ℕ) → nat_le n m ≡ true → n ≤ m
told_le n m told = grind (arith, nat_tests, told)

lt_told : (n m : ℕ) → n < m → nat_lt n m ≡ true
lt_told n m lt = grind (arith, nat_tests, lt)

pub told_lt : (n m : ℕ) → nat_lt n m ≡ true → n < m
told_lt n m told = grind (arith, nat_tests, told)

moved : (a b c d : List Row) (branch bound : Row) →
    (a ++ (b ++ branch ∷ (c ++ bound ∷ []))) ++ d ≡ ((a ++ (b ++ branch ∷ [])) ++ c) ++ bound ∷ d
moved a b c d branch bound = simp append_assoc

module _ (items lines : ℕ) where
  -- the fixes of a node
  pub record FixesFit (fixes : List Fix) : Type 0 where
    pub few : length fixes ≤ 1024
    pub fit : list_all (fix_fits items lines) fixes ≡ true

  pub no_fixes : FixesFit []
  no_fixes = record { few = omega arith; fit = refl }

  -- a tree below a node with so many branches above
  pub record TreeFits (height : ℕ) (tree : Tree) : Type 0 where
    pub fits : tree_fits items lines tree ≡ true
    pub depth : branch_depth tree + height ≤ 1024

  node_fits_by : (fixes : List Fix) (e : End-F End Tree) → FixesFit fixes →
      end_fits items lines (map-End End Tree Bool Bool (ends_fit items lines) (tree_fits items lines) e) ≡ true → tree_fits items lines (tree_of fixes e) ≡ true
  node_fits_by fixes e fits told =
      fits_of items lines fixes e
      ∙ both (nat_le (length fixes) 1024 && list_all (fix_fits items lines) fixes) (end_fits items lines (map-End End Tree Bool Bool (ends_fit items lines) (tree_fits items lines) e))
      (both (nat_le (length fixes) 1024) (list_all (fix_fits items lines) fixes) (le_told (length fixes) 1024 fits.few) fits.fit) told

  pub bound_fits : (height : ℕ) (fixes : List Fix) (lam : List (ℕ × ℕ)) → height ≤ 1024 → FixesFit fixes → lam_fits lines lam ≡ true → TreeFits height (tree_of fixes (End-F.Bound lam))
  bound_fits height fixes lam high fits told = record {
    fits = node_fits_by fixes (End-F.Bound lam) fits told;
    depth = omega (arith, depth_of fixes (End-F.Bound lam), high);
  }

  pub short_fits : (height : ℕ) (fixes : List Fix) (line : ℕ) → height ≤ 1024 → FixesFit fixes → line < lines → TreeFits height (tree_of fixes (End-F.Short line))
  short_fits height fixes line high fits below = record {
    fits = node_fits_by fixes (End-F.Short line) fits (lt_told line lines below);
    depth = omega (arith, depth_of fixes (End-F.Short line), high);
  }

  pub branch_fits : (height : ℕ) (fixes : List Fix) (place : ℕ) (lam : List (ℕ × ℕ)) (inside outside : Tree) → FixesFit fixes → place < items → lam_fits lines lam ≡ true →
      TreeFits (height + 1) inside → TreeFits (height + 1) outside → TreeFits height (tree_of fixes (End-F.Branch place lam inside outside))
  branch_fits height fixes place lam inside outside fits below told one two = record {
    fits = node_fits_by fixes (End-F.Branch place lam inside outside) fits
        (both (nat_lt place items && lam_fits lines lam && tree_fits items lines inside) (tree_fits items lines outside)
        (both (nat_lt place items && lam_fits lines lam) (tree_fits items lines inside) (both (nat_lt place items) (lam_fits lines lam) (lt_told place items below) told) one.fits) two.fits);
    depth = omega (arith, depth_of fixes (End-F.Branch place lam inside outside), less_of (branch_depth inside) (branch_depth outside) (height + 1) one.depth two.depth);
  }

  -- a branch with so many others above it
  abbrev pub FrameFits : ℕ → Frame → Type 0
  FrameFits height (frames.Inside fixes place lam) = FixesFit fixes × (place < items) × (lam_fits lines lam ≡ true)
  FrameFits height (frames.Outside fixes place lam inside) = FixesFit fixes × (place < items) × (lam_fits lines lam ≡ true) × TreeFits (height + 1) inside

  abbrev pub FramesFit : List Frame → Type 0
  FramesFit [] = Unit {0}
  FramesFit (frame ∷ above) = FrameFits (length above) frame × FramesFit above × (length above + 1 ≤ 1024)

  pub few_frames : (above : List Frame) → FramesFit above → length above ≤ 1024
  few_frames [] fits = omega arith
  few_frames (frame ∷ above) fits = omega (arith, fits.2)

  abbrev pub GrowthFits : Growth → Type 0
  GrowthFits (Open above fixes) = FramesFit above × FixesFit fixes
  GrowthFits (Grown tree) = TreeFits 0 tree

  pub grown_fits : (above : List Frame) (tree : Tree) → FramesFit above → TreeFits (length above) tree → GrowthFits (grown above tree)
  grown_fits [] tree fits told = told
  grown_fits (frames.Inside fixes place lam ∷ above) tree fits told =
      let deep : branch_depth tree + (length above + 1) ≤ 1024 = omega (arith, told.depth) in
      (((fits.0.0, fits.0.1, fits.0.2, record { fits = told.fits; depth = deep }), fits.1, fits.2), no_fixes)
  grown_fits (frames.Outside fixes place lam inside ∷ above) tree fits told =
      let deep : branch_depth tree + (length above + 1) ≤ 1024 = omega (arith, told.depth) in
      grown_fits above (tree_of fixes (End-F.Branch place lam inside tree)) fits.1
      (branch_fits (length above) fixes place lam inside tree fits.0.0 fits.0.1 fits.0.2 fits.0.3 (record { fits = told.fits; depth = deep }))

  -- ---- how what grows is closed: each open inside gets a bound end as its outside

  abbrev pub leaf : Tree
  leaf = tree_of [] (End-F.Bound [])

  abbrev pub closed : List Frame → Tree → Tree
  closed [] tree = tree
  closed (frames.Inside fixes place lam ∷ above) tree = closed above (tree_of fixes (End-F.Branch place lam tree leaf))
  closed (frames.Outside fixes place lam inside ∷ above) tree = closed above (tree_of fixes (End-F.Branch place lam inside tree))

  abbrev pub closing : List Frame → List Row
  closing [] = []
  closing (frames.Inside fixes place lam ∷ above) = rows.Bound [] ∷ closing above
  closing (frames.Outside fixes place lam inside ∷ above) = closing above

  pub leaf_fits : (height : ℕ) → height ≤ 1024 → TreeFits height leaf
  leaf_fits height high = bound_fits height [] [] high no_fixes refl

  pub closed_fits : (above : List Frame) (tree : Tree) → FramesFit above → TreeFits (length above) tree → TreeFits 0 (closed above tree)
  closed_fits [] tree fits told = told
  closed_fits (frames.Inside fixes place lam ∷ above) tree fits told =
      let deep : branch_depth tree + (length above + 1) ≤ 1024 = omega (arith, told.depth) in
      closed_fits above (tree_of fixes (End-F.Branch place lam tree leaf)) fits.1
      (branch_fits (length above) fixes place lam tree leaf fits.0.0 fits.0.1 fits.0.2 (record { fits = told.fits; depth = deep }) (leaf_fits (length above + 1) fits.2))
  closed_fits (frames.Outside fixes place lam inside ∷ above) tree fits told =
      let deep : branch_depth tree + (length above + 1) ≤ 1024 = omega (arith, told.depth) in
      closed_fits above (tree_of fixes (End-F.Branch place lam inside tree)) fits.1
      (branch_fits (length above) fixes place lam inside tree fits.0.0 fits.0.1 fits.0.2 fits.0.3 (record { fits = told.fits; depth = deep }))

  leaf_rows : tree_rows leaf ≡ rows.Bound [] ∷ []
  leaf_rows = rows_of_tree [] (End-F.Bound [])

  pub closed_rows : (above : List Frame) (tree : Tree) → tree_rows (closed above tree) ≡ (frames_rows above ++ tree_rows tree) ++ closing above
  closed_rows [] tree = sym (append-nil (tree_rows tree))
  closed_rows (frames.Inside fixes place lam ∷ above) tree =
      closed_rows above (tree_of fixes (End-F.Branch place lam tree leaf))
      ∙ ap (λ (rs : List Row). (frames_rows above ++ rs) ++ closing above) (rows_of_tree fixes (End-F.Branch place lam tree leaf) ∙ ap (λ (rs : List Row). map rows.Fix fixes ++ rows.Branch place lam ∷ (tree_rows tree ++ rs)) leaf_rows)
      ∙ moved (frames_rows above) (map rows.Fix fixes) (tree_rows tree) (closing above) (rows.Branch place lam) (rows.Bound [])
  closed_rows (frames.Outside fixes place lam inside ∷ above) tree =
      closed_rows above (tree_of fixes (End-F.Branch place lam inside tree))
      ∙ ap (λ (rs : List Row). (frames_rows above ++ rs) ++ closing above) (rows_of_tree fixes (End-F.Branch place lam inside tree))
      ∙ ap (λ (rs : List Row). rs ++ closing above)
      (ap (λ (rs : List Row). frames_rows above ++ rs) (sym (append_assoc (map rows.Fix fixes) (rows.Branch place lam ∷ tree_rows inside) (tree_rows tree)))
      ∙ sym (append_assoc (frames_rows above) (map rows.Fix fixes ++ rows.Branch place lam ∷ tree_rows inside) (tree_rows tree)))
