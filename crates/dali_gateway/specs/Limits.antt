use Rattle.std.specs.Prelude.{ℕ}

-- The limits of a gateway input. Each stands here as a number and nowhere else.

-- inboxes
abbrev pub most_inboxes : ℕ
most_inboxes = 16

-- bytes of an inbox
abbrev pub most_inbox : ℕ
most_inbox = 67108864

-- turns
abbrev pub most_turns : ℕ
most_turns = 1048576
