use Rattle.std.specs.Prelude.{ℕ}

-- The limits of a book. Each stands here as a number and nowhere else; in code it is the constant of the same name in
-- `src/limits.rt`, which is proved equal to it. The greatest total and the greatest price stand on the page of this name of
-- dali_base.

-- accounts
abbrev pub most_accounts : ℕ
most_accounts = 1000

-- codes, without cash
abbrev pub most_codes : ℕ
most_codes = 1000
