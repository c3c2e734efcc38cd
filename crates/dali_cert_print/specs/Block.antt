use Rattle.std.specs.Prelude.{ℕ, Bool, not, ◌&&◌, nat_le, List, [], ◌∷◌, ◌++◌, length, map, unsigned_abs}
use Rattle.std.specs.List.{flat_map, list_all}
use Rattle.dali_problem.specs.Clearing.{Item, Clearing}
use Rattle.dali_problem.specs.declared.row.Effect.{Effect}
use Rattle.dali_tree.specs.declared.tree.Tree.{Tree}
use Rattle.dali_tree.specs.declared.tree.End.{End}
use Rattle.dali_tree.specs.declared.tree.End.TheOpen.{End-F}
use Rattle.dali_tree.specs.declared.tree.End.TheFolds.{fold-End, fold-Tree}
use Rattle.dali_tree.specs.declared.choice.Part.{Part}
use Rattle.dali_tree.specs.declared.choice.Choice.{Choice}
use Rattle.dali_cert_print.specs.declared.row.Row.{Row}
use Rattle.dali_cert_print.specs.declared.row.Row.TheVariants as rows
use Rattle.dali_cert_print.specs.Limits.{most_small_value, most_small_effect, most_small_effects, most_small_bound}
use Rattle.dali_cert_print.specs.Rows.{rows_text}

-- the size of an effect that a block of edition 1 has
abbrev pub is_small_effect : Effect → Bool
is_small_effect e = nat_le (unsigned_abs e.amount) most_small_effect

-- a value and effects that an item of a block of edition 1 has
abbrev pub is_small : ℕ → List Effect → Bool
is_small value effects = nat_le value most_small_value && nat_le 1 (length effects) && nat_le (length effects) most_small_effects && list_all is_small_effect effects

abbrev pub is_small_item : Item → Bool
is_small_item item = is_small item.value item.effects

-- the bound of a part that a block of edition 1 has
abbrev pub is_small_bound : ℕ → Bool
is_small_bound bound = nat_le bound most_small_bound

-- whether edition 2 is needed: an item isn't small, or a bound isn't
abbrev pub is_wide : Clearing → Choice → Bool
is_wide p c = not (list_all is_small_item p.items && list_all (λ part. is_small_bound part.bound) c.parts)

-- the rows of an end; a side stands for its own rows
abbrev pub end_step : End-F (List Row) (List Row) → List Row
end_step (End-F.Bound lam) = rows.Bound lam ∷ []
end_step (End-F.Short line) = rows.Short line ∷ []
end_step (End-F.Branch place lam inside outside) = rows.Branch place lam ∷ (inside ++ outside)

-- the rows of a tree, node by node: its fixes, then its end, and for a branch the inside and then the outside
abbrev pub tree_rows : Tree → List Row
tree_rows = fold-Tree (List Row) (List Row) end_step (λ node. map rows.Fix node.fixes ++ node.end)

abbrev pub end_rows : End → List Row
end_rows = fold-End (List Row) (List Row) end_step (λ node. map rows.Fix node.fixes ++ node.end)

abbrev pub part_rows : Part → List Row
part_rows part = rows.Part part.bound part.members ∷ tree_rows part.tree

abbrev pub item_row : Item → Row
item_row item = rows.Item item.id item.value item.effects

-- the rows of a block, whose edition is 2 where it is wide
abbrev pub block_rows : Bool → Clearing → ℕ → Choice → List Row
block_rows wide p b c =
    rows.Block wide ∷ rows.Budget b ∷ (map rows.Line p.lines ++ map item_row p.items ++ rows.Set c.places ∷ (flat_map part_rows c.parts ++ rows.Last ∷ []))

-- the block of a problem, a budget and a choice
abbrev pub block_text : Clearing → ℕ → Choice → List ℕ
block_text p b c = rows_text (block_rows (is_wide p c) p b c)
