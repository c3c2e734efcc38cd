use Rattle.std.specs.Prelude.{ℕ}

-- The limits of a day file. Each stands here as a number and nowhere else; those of a command's fields stand on the page of
-- this name of dali_base.

-- bytes of a command
abbrev pub most_command : ℕ
most_command = 200

-- bytes of a day file
abbrev pub most_file : ℕ
most_file = 67108864
