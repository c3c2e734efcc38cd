use Rattle.std.proofs.Common.{◌≡◌, ◌∙◌, ℕ, Bool, List, [], ◌∷◌, ◌++◌, length, map, refl, sym, ap, append_assoc, ◌&&◌}
use Rattle.std.proofs.lemmas.List.{append-nil}
use Rattle.std.specs.Prelude.{nat_le}
use Rattle.std.specs.List.{list_all}
use Rattle.dali_tree.specs.declared.fix.Fix.{Fix}
use Rattle.dali_tree.specs.declared.tree.Tree.{Tree}
use Rattle.dali_tree.specs.declared.tree.End.{End}
use Rattle.dali_tree.specs.declared.tree.End.TheOpen.{Tree-F, End-F}
use Rattle.dali_tree.specs.declared.tree.End.TheFolds.{fold-roll-End, fold-roll-Tree, map-End}
use Rattle.dali_tree.specs.declared.tree.End.TheViews.{roll-End}
use Rattle.dali_tree.specs.Fits.{fix_fits, end_fits, tree_fits}
use Rattle.dali_tree.specs.Tree.{depth_step, branch_depth}
use Rattle.dali_tree.specs.Ends.{ends_fit, end_depth}
use Rattle.dali_cert_print.specs.declared.row.Row.{Row}
use Rattle.dali_cert_print.specs.declared.row.Row.TheVariants as rows
use Rattle.dali_cert_text.specs.declared.growth.Frame.{Frame}
use Rattle.dali_cert_text.specs.declared.growth.Frame.TheVariants as frames
use Rattle.dali_cert_text.specs.declared.growth.Growth.{Growth}
use Rattle.dali_cert_text.specs.declared.growth.Growth.TheVariants.{Open, Grown}
use Rattle.dali_cert_print.specs.Block.{end_step, tree_rows, end_rows}
use Rattle.dali_cert_text.specs.Growth.{tree_of, grown}

-- The rows of a tree, and of one that is still growing.

abbrev node_rows : Tree-F (List Row) (List Row) → List Row
node_rows node = map rows.Fix node.fixes ++ node.end

pub rows_of_tree : (fixes : List Fix) (e : End-F End Tree) →
    tree_rows (tree_of fixes e) ≡ map rows.Fix fixes ++ end_step (map-End End Tree (List Row) (List Row) end_rows tree_rows e)
rows_of_tree fixes e =
    fold-roll-Tree (List Row) (List Row) end_step node_rows (record { fixes = fixes; end = roll-End e })
    ∙ ap (λ (rs : List Row). map rows.Fix fixes ++ rs) (fold-roll-End (List Row) (List Row) end_step node_rows e)

-- the rows of the branches above an open node
abbrev pub frame_rows : Frame → List Row
frame_rows (frames.Inside fixes place lam) = map rows.Fix fixes ++ rows.Branch place lam ∷ []
frame_rows (frames.Outside fixes place lam inside) = map rows.Fix fixes ++ rows.Branch place lam ∷ tree_rows inside

abbrev pub frames_rows : List Frame → List Row
frames_rows [] = []
frames_rows (frame ∷ above) = frames_rows above ++ frame_rows frame

abbrev pub open_rows : List Frame → List Fix → List Row
open_rows above fixes = frames_rows above ++ map rows.Fix fixes

abbrev pub growth_rows : Growth → List Row
growth_rows (Open above fixes) = open_rows above fixes
growth_rows (Grown tree) = tree_rows tree

branch_rows : (fixes : List Fix) (place : ℕ) (lam : List (ℕ × ℕ)) (inside outside : Tree) →
    tree_rows (tree_of fixes (End-F.Branch place lam inside outside)) ≡ (map rows.Fix fixes ++ rows.Branch place lam ∷ tree_rows inside) ++ tree_rows outside
branch_rows fixes place lam inside outside =
    rows_of_tree fixes (End-F.Branch place lam inside outside) ∙ sym (append_assoc (map rows.Fix fixes) (rows.Branch place lam ∷ tree_rows inside) (tree_rows outside))

-- what stands when the open node is a tree has the tree's rows behind those so far
pub grown_rows : (above : List Frame) (tree : Tree) → growth_rows (grown above tree) ≡ frames_rows above ++ tree_rows tree
grown_rows [] tree = refl
grown_rows (frames.Inside fixes place lam ∷ above) tree =
    append-nil (frames_rows above ++ (map rows.Fix fixes ++ rows.Branch place lam ∷ tree_rows tree))
    ∙ ap (λ (rs : List Row). frames_rows above ++ rs) (sym (append_assoc (map rows.Fix fixes) (rows.Branch place lam ∷ []) (tree_rows tree)))
    ∙ sym (append_assoc (frames_rows above) (map rows.Fix fixes ++ rows.Branch place lam ∷ []) (tree_rows tree))
grown_rows (frames.Outside fixes place lam inside ∷ above) tree =
    grown_rows above (tree_of fixes (End-F.Branch place lam inside tree))
    ∙ ap (λ (rs : List Row). frames_rows above ++ rs) (branch_rows fixes place lam inside tree)
    ∙ sym (append_assoc (frames_rows above) (map rows.Fix fixes ++ rows.Branch place lam ∷ tree_rows inside) (tree_rows tree))

-- ---- the folds on a node

pub depth_of : (fixes : List Fix) (e : End-F End Tree) → branch_depth (tree_of fixes e) ≡ depth_step (map-End End Tree ℕ ℕ end_depth branch_depth e)
depth_of fixes e = fold-roll-Tree ℕ ℕ depth_step (λ node. node.end) (record { fixes = fixes; end = roll-End e }) ∙ fold-roll-End ℕ ℕ depth_step (λ node. node.end) e

module _ (items lines : ℕ) where
  abbrev node_fits : Tree-F Bool Bool → Bool
  node_fits node = nat_le (length node.fixes) 1024 && list_all (fix_fits items lines) node.fixes && node.end

  pub fits_of : (fixes : List Fix) (e : End-F End Tree) → tree_fits items lines (tree_of fixes e)
      ≡ (nat_le (length fixes) 1024 && list_all (fix_fits items lines) fixes && end_fits items lines (map-End End Tree Bool Bool (ends_fit items lines) (tree_fits items lines) e))
  fits_of fixes e =
      fold-roll-Tree Bool Bool (end_fits items lines) node_fits (record { fixes = fixes; end = roll-End e })
      ∙ ap (λ (b : Bool). nat_le (length fixes) 1024 && list_all (fix_fits items lines) fixes && b) (fold-roll-End Bool Bool (end_fits items lines) node_fits e)
