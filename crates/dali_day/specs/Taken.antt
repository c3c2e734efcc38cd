use Rattle.std.specs.Prelude.{◌≡◌, ℕ, ◌+◌, ◌-◌, ◌≤◌, ◌⊎◌, List, [], ◌∷◌, ◌++◌, length, drop}
use Rattle.dali_line.specs.Commands.{commands, ended_commands}
use Rattle.dali_line.specs.Lines.{FirstIsLong, MOST_OF_FILE}
use Rattle.dali_register.specs.Front.{IsFront}

-- command number k, counted from 1, is there and has more than 200 bytes
pub record IsLongAt (k : ℕ) (commands : List (List ℕ)) : Type 0 where
  pub counted : 1 ≤ k
  pub long : FirstIsLong (drop (k - 1) commands)

-- whatever follows these bytes, their command k has a 201st byte
abbrev pub ShowsLong : ℕ → List ℕ → Type 0
ShowsLong k bytes = (rest : List ℕ) → IsLongAt k (commands (bytes ++ rest))

-- no command of these bytes has a 201st byte whatever follows
abbrev pub ShowsNoLong : List ℕ → Type 0
ShowsNoLong bytes = (k : ℕ) → ShowsLong k bytes → ⊥

-- the input was read to its end, and the lines are all its commands
pub record ReadsAll (taken left : List ℕ) (lines : List (List ℕ)) : Type 0 where
  pub end : left ≡ []
  pub limit : length taken ≤ MOST_OF_FILE
  pub all : lines ≡ commands taken

-- the lines are the commands that an LF ended within the bytes taken, of which none shows a long command
pub record BreaksAfter (taken : List ℕ) (lines : List (List ℕ)) : Type 0 where
  pub limit : length taken ≤ MOST_OF_FILE
  pub whole : lines ≡ ended_commands taken
  pub none_long : ShowsNoLong taken

-- the end of input was met within the limit, and by it command k has a 201st byte
pub record LongAtEnd (k : ℕ) (taken left : List ℕ) : Type 0 where
  pub long : IsLongAt k (commands taken)
  pub limit : length taken ≤ MOST_OF_FILE
  pub end : left ≡ []

-- the lines are the first k - 1 commands, and command k has a 201st byte, whatever follows the bytes taken, or by the
-- end of input where that was met
pub record LongAfter (k : ℕ) (taken left : List ℕ) (lines : List (List ℕ)) : Type 0 where
  pub next : k ≡ length lines + 1
  pub limit : length taken ≤ MOST_OF_FILE + 1
  pub long : ShowsLong k taken ⊎ LongAtEnd k taken left

-- one byte past the limit was taken, and the lines are the commands that an LF ended within it, so the next doesn't end
-- there; no command is shown to be long
pub record PastLimit (taken : List ℕ) (lines : List (List ℕ)) : Type 0 where
  pub within : List ℕ
  pub past : ℕ
  pub parts : taken ≡ within ++ past ∷ []
  pub limit : length within ≡ MOST_OF_FILE
  pub whole : lines ≡ ended_commands within
  pub none_long : ShowsNoLong taken

-- the lines are the first commands of the bytes taken, which don't pass the file's limit
pub record StopsInLimit (taken : List ℕ) (lines : List (List ℕ)) : Type 0 where
  pub limit : length taken ≤ MOST_OF_FILE
  pub first : IsFront lines (commands taken)

-- the lines are the first commands of the bytes taken
pub record StopsWithin (taken : List ℕ) (lines : List (List ℕ)) : Type 0 where
  pub limit : length taken ≤ MOST_OF_FILE + 1
  pub first : IsFront lines (commands taken)
