use Rattle.std.specs.Prelude.{ℕ, ◌<◌, ◌≤◌, Bool, true, IsTrue, ◌&&◌, nat_lt, nat_le, List, [], ◌∷◌, length, map, slice_index}
use Rattle.std.specs.List.{All, AllPairs, list_all}
use Rattle.dali_base.specs.Limits.{most_bound, most_multiplier, most_depth, most_fixes}
use Rattle.dali_tree.specs.declared.fix.Fix.{Fix}
use Rattle.dali_tree.specs.declared.fix.Fix.TheVariants.{Barred, Needed, Safe}
use Rattle.dali_tree.specs.declared.tree.Tree.{Tree}
use Rattle.dali_tree.specs.declared.tree.End.TheOpen.{End-F}
use Rattle.dali_tree.specs.declared.tree.End.TheFolds.{fold-Tree}
use Rattle.dali_tree.specs.declared.choice.Part.{Part}
use Rattle.dali_tree.specs.declared.choice.Choice.{Choice}
use Rattle.dali_tree.specs.Tree.{branch_depth}

-- a fix names a place and a line in range
abbrev pub fix_fits : ℕ → ℕ → Fix → Bool
fix_fits items lines (Barred place line) = nat_lt place items && nat_lt line lines
fix_fits items lines (Needed place line) = nat_lt place items && nat_lt line lines
fix_fits items lines (Safe place) = nat_lt place items

-- each number is below every later one
abbrev pub is_rising : List ℕ → Bool
is_rising [] = true
is_rising (x ∷ xs) = list_all (nat_lt x) xs && is_rising xs

-- a multiplier is from 1 to the greatest, on a line in range
abbrev pub multiplier_fits : ℕ → ℕ × ℕ → Bool
multiplier_fits lines m = nat_lt m.0 lines && nat_le 1 m.1 && nat_le m.1 most_multiplier

-- multipliers stand on rising lines
abbrev pub lam_fits : ℕ → List (ℕ × ℕ) → Bool
lam_fits lines lam = list_all (multiplier_fits lines) lam && is_rising (map (λ m. m.0) lam)

-- an end names places and lines in range; a side stands for whether it fits
abbrev pub end_fits : ℕ → ℕ → End-F Bool Bool → Bool
end_fits items lines (End-F.Bound lam) = lam_fits lines lam
end_fits items lines (End-F.Short line) = nat_lt line lines
end_fits items lines (End-F.Branch place lam inside outside) =
    nat_lt place items && lam_fits lines lam && inside && outside

-- no node has too many fixes, and all that a tree names is in range
abbrev pub tree_fits : ℕ → ℕ → Tree → Bool
tree_fits items lines =
    fold-Tree Bool Bool (end_fits items lines)
    (λ node. nat_le (length node.fixes) most_fixes && list_all (fix_fits items lines) node.fixes && node.end)

-- a rising list of numbers below n
pub record AreRising (n : ℕ) (xs : List ℕ) : Type 0 where
  pub rising : AllPairs (λ i j. i < j) xs
  pub in_range : All (λ i. i < n) xs

-- a part of a problem with so many items and lines
pub record PartFits (items lines : ℕ) (part : Part) : Type 0 where
  pub some : 0 < length part.members
  pub members : AreRising items part.members
  pub bound : part.bound ≤ most_bound
  pub tree : IsTrue (tree_fits items lines part.tree)
  pub depth : branch_depth part.tree ≤ most_depth

-- the first member of a part
abbrev pub first_member : Part → ℕ
first_member part = slice_index part.members 0

-- a choice fits a problem with so many items and lines
pub record Fits (items lines : ℕ) (choice : Choice) : Type 0 where
  pub set : AreRising items choice.places
  pub parts : All (PartFits items lines) choice.parts
  pub order : AllPairs (λ a b. first_member a < first_member b) choice.parts
