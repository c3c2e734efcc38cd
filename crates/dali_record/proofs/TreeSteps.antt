-- How an end and a branch are read, by how many branches may still stand.
use Rattle.std.proofs.Common.{◌≡◌, ◌≢◌, ℕ, suc, ◌-◌, List, None, ap, arith}
use Rattle.dali_record.specs.Reading.{branch_at, any_end_at, no_branch_at, end_at, tree_at}

pub end_flat : (depth left : ℕ) (above : ℕ → ℕ) (bytes : List ℕ) → depth ≡ 0 → end_at depth left above bytes ≡ any_end_at no_branch_at left above bytes
unfolding end_at
end_flat depth left above bytes is = ap (λ (d : ℕ). end_at d left above bytes) is

pub end_deep : (depth left : ℕ) (above : ℕ → ℕ) (bytes : List ℕ) → depth ≢ 0 → end_at depth left above bytes ≡ any_end_at (branch_at (tree_at (depth - 1))) left above bytes
unfolding end_at
end_deep depth left above bytes some =
    let is : depth ≡ suc (depth - 1) = omega arith in
    ap (λ (d : ℕ). end_at d left above bytes) is

pub branch_spent : (depth left : ℕ) (above : ℕ → ℕ) (bytes : List ℕ) → left ≡ 0 → branch_at (tree_at depth) left above bytes ≡ None
unfolding branch_at
branch_spent depth left above bytes is = ap (λ (k : ℕ). branch_at (tree_at depth) k above bytes) is

pub branch_some : (depth left : ℕ) (above : ℕ → ℕ) (bytes : List ℕ) → left ≢ 0 → branch_at (tree_at depth) left above bytes ≡ branch_at (tree_at depth) (suc (left - 1)) above bytes
branch_some depth left above bytes some =
    let is : left ≡ suc (left - 1) = omega arith in
    ap (λ (k : ℕ). branch_at (tree_at depth) k above bytes) is
