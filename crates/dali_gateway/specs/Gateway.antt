use Rattle.std.specs.Prelude.{ℕ, ◌-◌, if◌then◌else◌, ◌==◌, List, [], ◌∷◌, ◌++◌, drop}
use Rattle.dali_outside.specs.Outside.{Feed}
use Rattle.dali_line.specs.Commands.{commands}

-- What a gate is: the bytes of its inboxes, its turns, each the number of its inbox from 0, and the bytes of the merge that
-- weren't taken yet.
pub record Gateway : Type 0 where
  pub inboxes : List (List ℕ)
  pub turns : List ℕ
  pub left : List ℕ

-- as a source it never failed
abbrev pub feed_of : Gateway → Feed
feed_of gate = record { left = gate.left; faults = 0 }

-- an inbox from which commands are taken: all of its bytes, those of the open command that weren't taken yet, and the bytes
-- behind the commands that were opened
pub record Box : Type 0 where
  pub whole : List ℕ
  pub open_ : List ℕ
  pub left : List ℕ

abbrev pub whole_of : Box → List ℕ
whole_of box = box.whole

-- the commands that weren't opened yet
abbrev pub queue : Box → List (List ℕ)
queue box = commands box.left

-- an inbox of which nothing was taken
abbrev pub unopened : List ℕ → Box
unopened bytes = record { whole = bytes; open_ = []; left = bytes }

-- of an open command and the CR and LF behind it, so many bytes of these two weren't taken yet; without them nothing is open
abbrev pub pending : List ℕ → ℕ → List ℕ
pending open_ ending = if ending == 0 then [] else open_ ++ drop (2 - ending) (13 ∷ 10 ∷ [])
