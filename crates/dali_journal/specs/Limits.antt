use Rattle.std.specs.Prelude.{ℕ}

-- The limits of a journal. Each stands here as a number and nowhere else; in code it is the constant of the same name in
-- `src/limits.rt`, which is proved equal to it.

-- the least size of a device, in bytes
abbrev pub least_size : ℕ
least_size = 64

-- bytes of a payload
abbrev pub most_payload : ℕ
most_payload = 536870912

-- payloads of a group
abbrev pub most_payloads : ℕ
most_payloads = 64

-- bytes of a payload in a group
abbrev pub most_grouped : ℕ
most_grouped = 204
