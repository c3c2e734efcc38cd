use Rattle.std.specs.Prelude.{◌≡◌, ℕ, ◌==◌, if◌then◌else◌, List, [], ◌∷◌, ◌++◌, length, map, take, slice_index_or, count_by}
use Rattle.dali_line.specs.Commands.{commands}
use Rattle.dali_gateway.specs.Merge.{queue_of, after_turn, merge}

-- the turn, where its queue isn't used up
abbrev pub giver : ℕ → List (List ℕ) → List ℕ
giver turn [] = []
giver turn (command ∷ queue) = turn ∷ []

-- the turns that give a command, from these queues
abbrev pub giving : List (List (List ℕ)) → List ℕ → List ℕ
giving queues [] = []
giving queues (turn ∷ turns) = giver turn (queue_of queues turn) ++ giving (after_turn queues turn) turns

-- the inbox of each command of the merge
abbrev pub givers : List (List ℕ) → List ℕ → List ℕ
givers inboxes turns = giving (map commands inboxes) turns

-- those of some lines that stand at the positions of an inbox
abbrev pub share : ℕ → List ℕ → List (List ℕ) → List (List ℕ)
share inbox [] lines = []
share inbox (giver ∷ givers) [] = []
share inbox (giver ∷ givers) (line ∷ lines) = if giver == inbox then line ∷ share inbox givers lines else share inbox givers lines

-- the commands of an inbox
abbrev pub sent : List (List ℕ) → ℕ → List (List ℕ)
sent inboxes inbox = commands (slice_index_or inboxes inbox [])

-- The merge keeps each inbox's order: each of its commands stands at a position of one inbox; those at the positions of an
-- inbox are the first of its commands, as many as it has turns or as it has commands; and of every front of the merge they
-- are a front of its commands. So no command of an inbox is doubled, left out in the middle or put in another order.
pub record KeepsOrder (inboxes : List (List ℕ)) (turns : List ℕ) : Type 0 where
  pub each : length (givers inboxes turns) ≡ length (commands (merge inboxes turns))
  pub whole : (inbox : ℕ) → share inbox (givers inboxes turns) (commands (merge inboxes turns))
      ≡ take (count_by (λ turn. turn == inbox) turns) (sent inboxes inbox)
  pub fronts : (inbox n : ℕ) → (more : List (List ℕ))
      × (sent inboxes inbox ≡ share inbox (givers inboxes turns) (take n (commands (merge inboxes turns))) ++ more)
