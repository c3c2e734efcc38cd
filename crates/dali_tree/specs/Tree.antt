use Rattle.std.specs.Prelude.{ℕ, ◌+◌, max}
use Rattle.dali_tree.specs.declared.tree.Tree.{Tree}
use Rattle.dali_tree.specs.declared.tree.End.TheOpen.{End-F}
use Rattle.dali_tree.specs.declared.tree.End.TheFolds.{fold-Tree}

-- how many branches a tree has; a side stands for its own number
abbrev pub count_step : End-F ℕ ℕ → ℕ
count_step (End-F.Bound lam) = 0
count_step (End-F.Short line) = 0
count_step (End-F.Branch place lam inside outside) = inside + outside + 1

abbrev pub branch_count : Tree → ℕ
branch_count = fold-Tree ℕ ℕ count_step (λ node. node.end)

-- how many branches the longest path of a tree has
abbrev pub depth_step : End-F ℕ ℕ → ℕ
depth_step (End-F.Bound lam) = 0
depth_step (End-F.Short line) = 0
depth_step (End-F.Branch place lam inside outside) = max inside outside + 1

abbrev pub branch_depth : Tree → ℕ
branch_depth = fold-Tree ℕ ℕ depth_step (λ node. node.end)
