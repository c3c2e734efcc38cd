use Rattle.std.specs.Prelude.{ℕ, zero, suc, ◌<◌, ◌≤◌, ◌==◌, List, [], ◌∷◌, ◌++◌, Option, Some, None, unwrap_or, if◌then◌else◌}
use Rattle.dali_base.specs.Limits.{most_lines}

-- lines rise from one on, below an end
abbrev pub Rises : ℕ → ℕ → List (ℕ × ℕ) → Type 0
Rises from end [] = Unit {0}
Rises from end (m ∷ ms) = (from ≤ m.0) × (m.0 < end) × Rises (suc m.0) end ms

-- the number that a list has for a line, if it has one
abbrev pub at_line : List (ℕ × ℕ) → ℕ → Option ℕ
at_line [] line = None
at_line (m ∷ lam) line = if m.0 == line then Some m.1 else at_line lam line

-- the multiplier of each line behind these changes of the multipliers above
abbrev pub behind : (ℕ → ℕ) → List (ℕ × ℕ) → ℕ → ℕ
behind above changes line = unwrap_or (at_line changes line) (above line)

-- the multipliers above a root: 0 for every line
abbrev pub all_zero : ℕ → ℕ
all_zero line = 0

-- the multiplier of each line in a list of multipliers, 0 where it has none
abbrev pub multiplier : List (ℕ × ℕ) → ℕ → ℕ
multiplier lam = behind all_zero lam

-- the change of a line, where it has one
abbrev pub change : (ℕ → ℕ) → (ℕ → ℕ) → ℕ → List (ℕ × ℕ)
change above own line = if own line == above line then [] else (line, own line) ∷ []

-- the changes of so many lines from one on
unfoldable pub changes_from : (ℕ → ℕ) → (ℕ → ℕ) → ℕ → ℕ → List (ℕ × ℕ)
changes_from above own line zero = []
changes_from above own line (suc count) = change above own line ++ changes_from above own (suc line) count

-- how a node's own multipliers differ from those of the branch above it: each line that has another multiplier there,
-- with its own, in order of lines
abbrev pub changes : (ℕ → ℕ) → (ℕ → ℕ) → List (ℕ × ℕ)
changes above own = changes_from above own 0 most_lines

-- the list of the multipliers that aren't 0
abbrev pub list_of : (ℕ → ℕ) → List (ℕ × ℕ)
list_of own = changes all_zero own
