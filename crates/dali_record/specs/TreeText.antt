use Rattle.std.specs.Prelude.{ℕ, List, ◌∷◌, ◌++◌, length}
use Rattle.std.specs.List.{flat_map}
use Rattle.std.specs.Int.{w16, w64, to_be_bytes}
use Rattle.dali_tree.specs.declared.fix.Fix.{Fix}
use Rattle.dali_tree.specs.declared.fix.Fix.TheVariants.{Barred, Needed, Safe}
use Rattle.dali_tree.specs.declared.tree.Tree.{Tree}
use Rattle.dali_tree.specs.declared.tree.End.{End}
use Rattle.dali_tree.specs.declared.tree.End.TheOpen.{Tree-F, End-F}
use Rattle.dali_tree.specs.declared.tree.End.TheFolds.{fold-End, fold-Tree}
use Rattle.dali_record.specs.Multipliers.{multiplier, changes}

-- a number in two bytes, and in eight
abbrev pub two_bytes : ℕ → List ℕ
two_bytes n = to_be_bytes w16 n

abbrev pub eight_bytes : ℕ → List ℕ
eight_bytes n = to_be_bytes w64 n

-- a list: how many items it has, and the text of each
abbrev pub list_text : {X : Type 0} → (X → List ℕ) → List X → List ℕ
list_text text xs = two_bytes (length xs) ++ flat_map text xs

abbrev pub places_text : List ℕ → List ℕ
places_text places = list_text two_bytes places

abbrev pub fix_text : Fix → List ℕ
fix_text (Barred place line) = 1 ∷ (two_bytes place ++ two_bytes line)
fix_text (Needed place line) = 2 ∷ (two_bytes place ++ two_bytes line)
fix_text (Safe place) = 3 ∷ two_bytes place

-- a line and its multiplier
abbrev pub multiplier_text : ℕ × ℕ → List ℕ
multiplier_text m = two_bytes m.0 ++ eight_bytes m.1

-- a node's multipliers, as changes from those of the branch above
abbrev pub lam_text : (ℕ → ℕ) → List (ℕ × ℕ) → List ℕ
lam_text above lam = list_text multiplier_text (changes above (multiplier lam))

-- an end, where these are the multipliers of the branch above; a side stands for its own text behind such multipliers
abbrev pub end_step : End-F ((ℕ → ℕ) → List ℕ) ((ℕ → ℕ) → List ℕ) → (ℕ → ℕ) → List ℕ
end_step (End-F.Bound lam) above = 4 ∷ lam_text above lam
end_step (End-F.Short line) above = 5 ∷ two_bytes line
end_step (End-F.Branch place lam inside outside) above =
    6 ∷ (two_bytes place ++ (lam_text above lam ++ (inside (multiplier lam) ++ outside (multiplier lam))))

-- a node: its fixes, and its end
abbrev pub node_step : Tree-F ((ℕ → ℕ) → List ℕ) ((ℕ → ℕ) → List ℕ) → (ℕ → ℕ) → List ℕ
node_step node above = list_text fix_text node.fixes ++ node.end above

-- the text of a tree, and of an end, below these multipliers of the branch above
abbrev pub tree_text : Tree → (ℕ → ℕ) → List ℕ
tree_text = fold-Tree ((ℕ → ℕ) → List ℕ) ((ℕ → ℕ) → List ℕ) end_step node_step

abbrev pub ends_text : End → (ℕ → ℕ) → List ℕ
ends_text = fold-End ((ℕ → ℕ) → List ℕ) ((ℕ → ℕ) → List ℕ) end_step node_step
