use Rattle.std.specs.Prelude.{ℕ, List, [], ◌∷◌, ◌++◌, map, drop, slice_index_or, slice_set}
use Rattle.dali_line.specs.Commands.{commands}

-- The merge of several inboxes by a list of turns. Inboxes are counted from 0, and a turn is the number of its inbox. A
-- queue is the commands of an inbox that weren't given yet.

-- what a turn gives: the first command of its queue, followed by CR and LF, or nothing where the queue is used up. The CR
-- keeps a command that itself ends in CR, since one CR is dropped before an LF
abbrev pub first_text : List (List ℕ) → List ℕ
first_text [] = []
first_text (command ∷ queue) = command ++ 13 ∷ 10 ∷ []

-- the queue of a turn
abbrev pub queue_of : List (List (List ℕ)) → ℕ → List (List ℕ)
queue_of queues turn = slice_index_or queues turn []

-- the queues after a turn: its own gave its first command
abbrev pub after_turn : List (List (List ℕ)) → ℕ → List (List (List ℕ))
after_turn queues turn = slice_set queues turn (drop 1 (queue_of queues turn))

-- what the turns give from these queues
abbrev pub merged : List (List (List ℕ)) → List ℕ → List ℕ
merged queues [] = []
merged queues (turn ∷ turns) = first_text (queue_of queues turn) ++ merged (after_turn queues turn) turns

-- what the turns give from these inboxes
abbrev pub merge : List (List ℕ) → List ℕ → List ℕ
merge inboxes turns = merged (map commands inboxes) turns
