use Rattle.std.specs.Prelude.{nat_lt, Option, Some, None, if◌then◌else◌, List, [], ◌∷◌, ◌++◌, length}
use Rattle.dali_base.specs.Limits.{most_depth, most_fixes}
use Rattle.dali_tree.specs.declared.fix.Fix.{Fix}
use Rattle.dali_tree.specs.declared.tree.Tree.{Tree}
use Rattle.dali_tree.specs.declared.tree.End.{End}
use Rattle.dali_tree.specs.declared.tree.End.TheOpen.{End-F}
use Rattle.dali_tree.specs.declared.tree.End.TheViews.{roll-End, roll-Tree}
use Rattle.dali_cert_print.specs.declared.row.Row.{Row}
use Rattle.dali_cert_print.specs.declared.row.Row.TheVariants as rows
use Rattle.dali_cert_text.specs.declared.growth.Frame.{Frame}
use Rattle.dali_cert_text.specs.declared.growth.Frame.TheVariants as frames
use Rattle.dali_cert_text.specs.declared.growth.Growth.{Growth}
use Rattle.dali_cert_text.specs.declared.growth.Growth.TheVariants.{Open, Grown}

-- How a tree grows row by row, for private functions: the branches above the open node, innermost first, and the fixes of
-- the open node.

-- a node
abbrev pub tree_of : List Fix → End-F End Tree → Tree
tree_of fixes end = roll-Tree (record { fixes = fixes; end = roll-End end })

-- what stands when the open node is this tree: the outside of the innermost branch whose inside was open is open next
abbrev pub grown : List Frame → Tree → Growth
grown [] tree = Grown tree
grown (frames.Inside fixes place lam ∷ above) tree = Open (frames.Outside fixes place lam tree ∷ above) []
grown (frames.Outside fixes place lam inside ∷ above) tree = grown above (tree_of fixes (End-F.Branch place lam inside tree))

-- what stands behind a row, if the row may come
unfoldable pub grow : List Frame → List Fix → Row → Option Growth
grow above fixes (rows.Fix fix) = if nat_lt (length fixes) most_fixes then Some (Open above (fixes ++ fix ∷ [])) else None
grow above fixes (rows.Bound lam) = Some (grown above (tree_of fixes (End-F.Bound lam)))
grow above fixes (rows.Short line) = Some (grown above (tree_of fixes (End-F.Short line)))
grow above fixes (rows.Branch place lam) = if nat_lt (length above) most_depth then Some (Open (frames.Inside fixes place lam ∷ above) []) else None
grow above fixes _ = None
