use Rattle.std.specs.Prelude.{ℕ, ◌≤◌, Bool, IsTrue, ◌&&◌, nat_lt, nat_le, List, map}
use Rattle.std.specs.List.{All, list_all}
use Rattle.dali_base.specs.Limits.{most_multiplier, most_depth}
use Rattle.dali_tree.specs.declared.tree.Tree.{Tree}
use Rattle.dali_tree.specs.declared.tree.End.TheOpen.{End-F}
use Rattle.dali_tree.specs.declared.tree.End.TheFolds.{fold-Tree}
use Rattle.dali_tree.specs.declared.choice.Part.{Part}
use Rattle.dali_tree.specs.declared.choice.Choice.{Choice}
use Rattle.dali_tree.specs.Tree.{branch_depth}
use Rattle.dali_tree.specs.Fits.{AreRising, is_rising, fix_fits}

-- a multiplier is at most the greatest, on a line in range
abbrev pub multiplier_in_range : ℕ → ℕ × ℕ → Bool
multiplier_in_range lines m = nat_lt m.0 lines && nat_le m.1 most_multiplier

-- multipliers in range stand on rising lines
abbrev pub lam_in_range : ℕ → List (ℕ × ℕ) → Bool
lam_in_range lines lam = list_all (multiplier_in_range lines) lam && is_rising (map (λ m. m.0) lam)

-- an end names places, lines and multipliers in range; a side stands for whether it does
abbrev pub end_in_range : ℕ → ℕ → End-F Bool Bool → Bool
end_in_range items lines (End-F.Bound lam) = lam_in_range lines lam
end_in_range items lines (End-F.Short line) = nat_lt line lines
end_in_range items lines (End-F.Branch place lam inside outside) =
    nat_lt place items && lam_in_range lines lam && inside && outside

-- all that a tree names is in range
abbrev pub tree_in_range : ℕ → ℕ → Tree → Bool
tree_in_range items lines =
    fold-Tree Bool Bool (end_in_range items lines)
    (λ node. list_all (fix_fits items lines) node.fixes && node.end)

-- a part names only what a problem of so many items and lines has, its members rise, and its tree isn't too deep to be
-- walked
pub record IsPartInRange (items lines : ℕ) (part : Part) : Type 0 where
  pub members : AreRising items part.members
  pub tree : IsTrue (tree_in_range items lines part.tree)
  pub depth : branch_depth part.tree ≤ most_depth

-- a choice names only what a problem of so many items and lines has; every choice that fits is in range
pub record IsInRange (items lines : ℕ) (choice : Choice) : Type 0 where
  pub set : AreRising items choice.places
  pub parts : All (IsPartInRange items lines) choice.parts
