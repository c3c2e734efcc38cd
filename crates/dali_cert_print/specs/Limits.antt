use Rattle.std.specs.Prelude.{ℕ, ◌*◌}
use Rattle.dali_base.specs.Limits.{most_quantity, most_items}

-- The limits of a block of edition 1, in which an item is an instruction. Each stands here and nowhere else; those of a block
-- of edition 2 are a problem's, and stand on the page of this name of dali_base.

-- an item's value, in centavos
abbrev pub most_small_value : ℕ
most_small_value = most_quantity

-- an effect's size, in units of its line's asset
abbrev pub most_small_effect : ℕ
most_small_effect = most_quantity

-- effects of an item
abbrev pub most_small_effects : ℕ
most_small_effects = 4

-- the bound of a part
abbrev pub most_small_bound : ℕ
most_small_bound = most_items * most_quantity
