-- What the text of a tree, the number of its branches and its depth are, node by node.
use Rattle.std.proofs.Common.{◌≡◌, ℕ, ◌+◌, Bool, ◌&&◌, List, ◌∷◌, ◌++◌, length, sym, ◌∙◌, ap}
use Rattle.std.specs.Prelude.{max, nat_lt, nat_le}
use Rattle.std.specs.List.{list_all}
use Rattle.dali_tree.specs.declared.fix.Fix.{Fix}
use Rattle.dali_tree.specs.declared.tree.Tree.{Tree}
use Rattle.dali_tree.specs.declared.tree.End.{End}
use Rattle.dali_tree.specs.declared.tree.End.TheVariants as ends
use Rattle.dali_tree.specs.declared.tree.End.TheVariants.{rolls-Bound, rolls-Short, rolls-Branch}
use Rattle.dali_tree.specs.declared.tree.End.TheOpen.{Tree-F, End-F}
use Rattle.dali_tree.specs.declared.tree.End.TheFolds.{fold-roll-End, fold-roll-Tree}
use Rattle.dali_tree.specs.declared.tree.End.TheViews.{rolls-struct-Tree}
use Rattle.dali_tree.specs.Tree.{count_step, depth_step, branch_count, branch_depth}
use Rattle.dali_tree.specs.Fits.{fix_fits, lam_fits, end_fits, tree_fits}
use Rattle.dali_tree.specs.Ends.{end_count, end_depth, ends_fit}
use Rattle.dali_record.specs.Multipliers.{multiplier}
use Rattle.dali_record.specs.TreeText.{two_bytes, list_text, fix_text, lam_text, end_step, node_step, tree_text, ends_text}

abbrev Text : Type 0
Text = (ℕ → ℕ) → List ℕ

pub text_bound : (lam : List (ℕ × ℕ)) (above : ℕ → ℕ) → ends_text (ends.Bound lam) above ≡ 4 ∷ lam_text above lam
text_bound lam above = ap (λ (e : End). ends_text e above) (sym (rolls-Bound lam)) ∙ ap (λ (k : Text). k above) (fold-roll-End Text Text end_step node_step (End-F.Bound lam))

pub text_short : (line : ℕ) (above : ℕ → ℕ) → ends_text (ends.Short line) above ≡ 5 ∷ two_bytes line
text_short line above = ap (λ (e : End). ends_text e above) (sym (rolls-Short line)) ∙ ap (λ (k : Text). k above) (fold-roll-End Text Text end_step node_step (End-F.Short line))

pub text_branch : (place : ℕ) (lam : List (ℕ × ℕ)) (inside outside : Tree) (above : ℕ → ℕ) → ends_text (ends.Branch place lam inside outside) above ≡
    6 ∷ (two_bytes place ++ (lam_text above lam ++ (tree_text inside (multiplier lam) ++ tree_text outside (multiplier lam))))
text_branch place lam inside outside above = ap (λ (e : End). ends_text e above) (sym (rolls-Branch place lam inside outside)) ∙ ap (λ (k : Text). k above) (fold-roll-End Text Text end_step node_step (End-F.Branch place lam inside outside))

pub text_node : (fixes : List Fix) (its_end : End) (above : ℕ → ℕ) → tree_text (record { fixes = fixes; end = its_end }) above ≡ list_text fix_text fixes ++ ends_text its_end above
text_node fixes its_end above = ap (λ (t : Tree). tree_text t above) (sym (rolls-struct-Tree (record { fixes = fixes; end = its_end }))) ∙ ap (λ (k : Text). k above) (fold-roll-Tree Text Text end_step node_step (record { fixes = fixes; end = its_end }))

pub count_bound : (lam : List (ℕ × ℕ)) → end_count (ends.Bound lam) ≡ 0
count_bound lam = ap (λ (e : End). end_count e) (sym (rolls-Bound lam)) ∙ fold-roll-End ℕ ℕ count_step (λ node. node.end) (End-F.Bound lam)

pub count_short : (line : ℕ) → end_count (ends.Short line) ≡ 0
count_short line = ap (λ (e : End). end_count e) (sym (rolls-Short line)) ∙ fold-roll-End ℕ ℕ count_step (λ node. node.end) (End-F.Short line)

pub count_branch : (place : ℕ) (lam : List (ℕ × ℕ)) (inside outside : Tree) → end_count (ends.Branch place lam inside outside) ≡ branch_count inside + branch_count outside + 1
count_branch place lam inside outside = ap (λ (e : End). end_count e) (sym (rolls-Branch place lam inside outside)) ∙ fold-roll-End ℕ ℕ count_step (λ node. node.end) (End-F.Branch place lam inside outside)

pub count_node : (fixes : List Fix) (its_end : End) → branch_count (record { fixes = fixes; end = its_end }) ≡ end_count its_end
count_node fixes its_end = ap (λ (t : Tree). branch_count t) (sym (rolls-struct-Tree (record { fixes = fixes; end = its_end }))) ∙ fold-roll-Tree ℕ ℕ count_step (λ node. node.end) (record { fixes = fixes; end = its_end })

pub depth_branch : (place : ℕ) (lam : List (ℕ × ℕ)) (inside outside : Tree) → end_depth (ends.Branch place lam inside outside) ≡ max (branch_depth inside) (branch_depth outside) + 1
depth_branch place lam inside outside = ap (λ (e : End). end_depth e) (sym (rolls-Branch place lam inside outside)) ∙ fold-roll-End ℕ ℕ depth_step (λ node. node.end) (End-F.Branch place lam inside outside)

pub depth_node : (fixes : List Fix) (its_end : End) → branch_depth (record { fixes = fixes; end = its_end }) ≡ end_depth its_end
depth_node fixes its_end = ap (λ (t : Tree). branch_depth t) (sym (rolls-struct-Tree (record { fixes = fixes; end = its_end }))) ∙ fold-roll-Tree ℕ ℕ depth_step (λ node. node.end) (record { fixes = fixes; end = its_end })

abbrev fits_at : ℕ → ℕ → Tree-F Bool Bool → Bool
fits_at items lines node = nat_le (length node.fixes) 1024 && list_all (fix_fits items lines) node.fixes && node.end

pub fits_bound : (items lines : ℕ) (lam : List (ℕ × ℕ)) → ends_fit items lines (ends.Bound lam) ≡ lam_fits lines lam
fits_bound items lines lam = ap (λ (e : End). ends_fit items lines e) (sym (rolls-Bound lam)) ∙ fold-roll-End Bool Bool (end_fits items lines) (fits_at items lines) (End-F.Bound lam)

pub fits_short : (items lines : ℕ) (line : ℕ) → ends_fit items lines (ends.Short line) ≡ nat_lt line lines
fits_short items lines line = ap (λ (e : End). ends_fit items lines e) (sym (rolls-Short line)) ∙ fold-roll-End Bool Bool (end_fits items lines) (fits_at items lines) (End-F.Short line)

pub fits_branch : (items lines : ℕ) (place : ℕ) (lam : List (ℕ × ℕ)) (inside outside : Tree) → ends_fit items lines (ends.Branch place lam inside outside) ≡
    (nat_lt place items && lam_fits lines lam && tree_fits items lines inside && tree_fits items lines outside)
fits_branch items lines place lam inside outside = ap (λ (e : End). ends_fit items lines e) (sym (rolls-Branch place lam inside outside)) ∙ fold-roll-End Bool Bool (end_fits items lines) (fits_at items lines) (End-F.Branch place lam inside outside)

pub fits_node : (items lines : ℕ) (fixes : List Fix) (its_end : End) → tree_fits items lines (record { fixes = fixes; end = its_end }) ≡
    (nat_le (length fixes) 1024 && list_all (fix_fits items lines) fixes && ends_fit items lines its_end)
fits_node items lines fixes its_end = ap (λ (t : Tree). tree_fits items lines t) (sym (rolls-struct-Tree (record { fixes = fixes; end = its_end }))) ∙ fold-roll-Tree Bool Bool (end_fits items lines) (fits_at items lines) (record { fixes = fixes; end = its_end })
