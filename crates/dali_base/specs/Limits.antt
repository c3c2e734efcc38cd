use Rattle.std.specs.Prelude.{ℕ, ◌*◌, ◌^◌}

-- The limits that several crates need. Each stands here as a number and nowhere else; in code it is the constant of the same
-- name in `src/limits.rt`, which is proved equal to it. A limit that one tower alone needs stands on such a page of its
-- lowest crate.

-- the newest edition of the day file's grammar
abbrev pub newest_edition : ℕ
newest_edition = 4

-- bytes of a name
abbrev pub most_name : ℕ
most_name = 12

-- a quantity, cash in centavos, and the value of one instruction
abbrev pub most_quantity : ℕ
most_quantity = 10 ^ 15

-- a price in centavos
abbrev pub most_price : ℕ
most_price = 10 ^ 9

-- an asset's total, over all balances and earmarks
abbrev pub most_total : ℕ
most_total = 10 ^ 18

-- a balance, which is a part of its asset's total
abbrev pub most_balance : ℕ
most_balance = most_total

-- a rank
abbrev pub most_rank : ℕ
most_rank = 16

-- a budget, in branchings
abbrev pub most_budget : ℕ
most_budget = 4096

-- lines of a problem
abbrev pub most_lines : ℕ
most_lines = 4096

-- items of a problem
abbrev pub most_items : ℕ
most_items = 1024

-- effects of an item
abbrev pub most_effects : ℕ
most_effects = 32

-- an effect's size, in units of its line's asset
abbrev pub most_effect : ℕ
most_effect = 8 * 10 ^ 15

-- an item's value, in centavos times rank
abbrev pub most_worth : ℕ
most_worth = 128 * 10 ^ 15

-- the sum of all items' values
abbrev pub most_worths : ℕ
most_worths = 16384 * 10 ^ 15

-- the bound of a part: no set is worth more than all items together
abbrev pub most_bound : ℕ
most_bound = most_worths

-- a multiplier
abbrev pub most_multiplier : ℕ
most_multiplier = 2 ^ 44

-- branches on a path of a certificate tree
abbrev pub most_depth : ℕ
most_depth = 1024

-- fixes of a node
abbrev pub most_fixes : ℕ
most_fixes = 1024
