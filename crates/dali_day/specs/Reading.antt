use Rattle.std.specs.Prelude.{◌≡◌, ℕ, ◌≤◌, Bool, true, false, IsTrue, List, [], ◌++◌, length}
use Rattle.dali_outside.specs.Outside.{Feed}
use Rattle.dali_line.specs.Commands.{commands, ended_commands}
use Rattle.dali_line.specs.Lines.{Reader, MOST_OF_FILE}

-- the bytes got gave these lines, and the commands of what is pending and of whatever follows come next
pub record GoesOn (got : List ℕ) (given : List (List ℕ)) (pending : List ℕ) : Type 0 where
  pub whole : (rest : List ℕ) → commands (got ++ rest) ≡ given ++ commands (pending ++ rest)
  pub ended : (rest : List ℕ) → ended_commands (got ++ rest) ≡ given ++ ended_commands (pending ++ rest)

-- the bytes got were all, and gave these lines
pub record IsOver (told : Bool) (got : List ℕ) (given : List (List ℕ)) (left : List ℕ) : Type 0 where
  pub whole : commands got ≡ given
  pub end : IsTrue told → left ≡ []

-- what the bytes got gave, by whether the reader is over
abbrev pub HasGiven : Bool → Bool → List ℕ → List (List ℕ) → List ℕ → List ℕ → Type 0
HasGiven told false got given pending left = GoesOn got given pending
HasGiven told true got given pending left = IsOver told got given left

-- how far the input was read since the start: these lines were given
pub record Reads (told : Bool) (old : Feed) (given : List (List ℕ)) (reader : Reader) (feed : Feed) : Type 0 where
  pub count : reader.given ≡ length given
  pub got : List ℕ
  pub moved : IsTrue told → old.left ≡ got ++ feed.left
  pub taken : reader.taken ≡ length got
  pub within : reader.taken ≤ MOST_OF_FILE
  pub far : HasGiven told reader.over got given reader.pending feed.left
