use Rattle.std.specs.Prelude.{ℕ}

-- The limits of shipped frames. Each stands here as a number and nowhere else; in code it is the constant of the same name in
-- `src/limits.rt`, which is proved equal to it.

-- bytes of a frame's record
abbrev pub most_record : ℕ
most_record = 536870912

-- bytes of a stream of frames
abbrev pub most_stream : ℕ
most_stream = 1099511627776
