use Rattle.std.specs.Prelude.{ℕ, List, map}
use Rattle.dali_tree.specs.declared.fix.Fix.{Fix}
use Rattle.dali_tree.specs.declared.fix.Fix.TheVariants.{Barred, Needed, Safe}
use Rattle.dali_tree.specs.declared.tree.Tree.{Tree}
use Rattle.dali_tree.specs.declared.tree.End.{End}
use Rattle.dali_tree.specs.declared.tree.End.TheVariants as ends
use Rattle.dali_tree.specs.declared.tree.End.TheOpen.{Tree-F, End-F}
use Rattle.dali_tree.specs.declared.tree.End.TheFolds.{fold-Tree, fold-End}
use Rattle.dali_tree.specs.declared.choice.Part.{Part}
use Rattle.dali_restrict.specs.Restriction.{old_of}

-- a fix, multipliers and an end with the old numbers of their places and lines
abbrev pub wide_fix : List ℕ → List ℕ → Fix → Fix
wide_fix places lines (Barred place line) = Barred (old_of places place) (old_of lines line)
wide_fix places lines (Needed place line) = Needed (old_of places place) (old_of lines line)
wide_fix places lines (Safe place) = Safe (old_of places place)

abbrev pub wide_pair : List ℕ → ℕ × ℕ → ℕ × ℕ
wide_pair lines m = (old_of lines m.0, m.1)

abbrev pub wide_lam : List ℕ → List (ℕ × ℕ) → List (ℕ × ℕ)
wide_lam lines lam = map (wide_pair lines) lam

abbrev pub end_step : List ℕ → List ℕ → End-F End Tree → End
end_step places lines (End-F.Bound lam) = ends.Bound (wide_lam lines lam)
end_step places lines (End-F.Short line) = ends.Short (old_of lines line)
end_step places lines (End-F.Branch place lam inside outside) = ends.Branch (old_of places place) (wide_lam lines lam) inside outside

abbrev pub node_step : List ℕ → List ℕ → Tree-F End Tree → Tree
node_step places lines node = record { fixes = map (wide_fix places lines) node.fixes; end = node.end }

-- a tree with the old numbers, and the same of an end
abbrev pub wide_tree : List ℕ → List ℕ → Tree → Tree
wide_tree places lines = fold-Tree End Tree (end_step places lines) (node_step places lines)

abbrev pub wide_ends : List ℕ → List ℕ → End → End
wide_ends places lines = fold-End End Tree (end_step places lines) (node_step places lines)

-- a part with the old numbers
abbrev pub wide_part : List ℕ → List ℕ → Part → Part
wide_part places lines part = record {
  members = map (old_of places) part.members;
  bound = part.bound;
  tree = wide_tree places lines part.tree;
}
