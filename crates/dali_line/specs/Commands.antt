use Rattle.std.specs.Prelude.{ℕ, Bool, false, not, ◌==◌, List, [], ◌∷◌, filter}
use Rattle.std.specs.List.{slice_split}
use Rattle.std.specs.Str.Lines.{lines, strip_carriage_return}

-- a piece that isn't empty and doesn't begin with '#'
abbrev pub is_command : List ℕ → Bool
is_command [] = false
is_command (b ∷ bytes) = not (b == 35)

-- The commands of a day file: the text is cut at each LF, one CR before an LF is dropped, and a last piece without
-- an LF is kept as it is. Pieces that are empty then, or begin with '#', are skipped.
abbrev pub commands : List ℕ → List (List ℕ)
commands file = filter is_command (lines file)

-- of the pieces between LFs those that an LF ends, each less one CR
abbrev pub ended_of_parts : List (List ℕ) → List (List ℕ)
ended_of_parts [] = []
ended_of_parts (piece ∷ []) = []
ended_of_parts (piece ∷ next ∷ more) = strip_carriage_return piece ∷ ended_of_parts (next ∷ more)

-- the commands of these bytes that an LF ends
abbrev pub ended_commands : List ℕ → List (List ℕ)
ended_commands bytes = filter is_command (ended_of_parts (slice_split (λ b. b == 10) bytes))
