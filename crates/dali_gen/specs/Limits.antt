use Rattle.std.specs.Prelude.{ℕ}

-- The sizes of a generated day. Each stands here as a number and nowhere else; in code it is the constant of the same name
-- in `src/limits.rt`, which is proved equal to it.

-- the greatest number of a day; the least is 1
abbrev pub most_number : ℕ
most_number = 64

-- its accounts
abbrev pub account_count : ℕ
account_count = 12

-- its codes
abbrev pub code_count : ℕ
code_count = 30

-- its groups of instructions, each with a cycle behind it
abbrev pub group_count : ℕ
group_count = 4

-- how many instructions a group has for each one of the day's number
abbrev pub group_share : ℕ
group_share = 4
