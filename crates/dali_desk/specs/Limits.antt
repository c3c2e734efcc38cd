use Rattle.std.specs.Prelude.{ℕ, ◌^◌}
use Rattle.dali_line.specs.Limits.{most_file}

-- The limits of the words. Each stands here as a number and nowhere else; in code it is the constant of the same name, which
-- is proved equal to it. The least size of a journal stands on the page of this name of dali_journal, and the limits of a
-- day file on that of dali_line.

-- the greatest size of a journal, in bytes
abbrev pub most_size : ℕ
most_size = 2 ^ 40

-- bytes of the input of `check`
abbrev pub most_checked : ℕ
most_checked = 2 ^ 30

-- bytes of the input of `gate`: as many as a day file may have
abbrev pub most_gated : ℕ
most_gated = most_file
