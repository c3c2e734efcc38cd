use Rattle.std.specs.Prelude.{ℕ, Bool, nat_le, ◌&&◌, length}
use Rattle.std.specs.List.{list_all}
use Rattle.dali_base.specs.Limits.{most_fixes}
use Rattle.dali_tree.specs.declared.tree.End.{End}
use Rattle.dali_tree.specs.declared.tree.End.TheFolds.{fold-End}
use Rattle.dali_tree.specs.Tree.{count_step, depth_step}
use Rattle.dali_tree.specs.Fits.{fix_fits, end_fits}
use Rattle.dali_tree.specs.Range.{end_in_range}

-- the same of an end that `branch_count`, `branch_depth`, `tree_fits` and `tree_in_range` say of a tree
abbrev pub end_count : End → ℕ
end_count = fold-End ℕ ℕ count_step (λ node. node.end)

abbrev pub end_depth : End → ℕ
end_depth = fold-End ℕ ℕ depth_step (λ node. node.end)

abbrev pub ends_fit : ℕ → ℕ → End → Bool
ends_fit items lines = fold-End Bool Bool (end_fits items lines)
    (λ node. nat_le (length node.fixes) most_fixes && list_all (fix_fits items lines) node.fixes && node.end)

abbrev pub ends_in_range : ℕ → ℕ → End → Bool
ends_in_range items lines = fold-End Bool Bool (end_in_range items lines)
    (λ node. list_all (fix_fits items lines) node.fixes && node.end)
