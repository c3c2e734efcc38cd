use Rattle.std.specs.Prelude.{ℕ, min, ◌==◌, List, [], ◌∷◌, Option, Some, None, if◌then◌else◌}

-- the least of the first lines of two lists of multipliers
abbrev pub least : List (ℕ × ℕ) → List (ℕ × ℕ) → Option ℕ
least [] [] = None
least (a ∷ first) [] = Some a.0
least [] (b ∷ second) = Some b.0
least (a ∷ first) (b ∷ second) = Some (min a.0 b.0)

-- what a list of multipliers begins with on a line, and the rest of it
abbrev pub taken_value : List (ℕ × ℕ) → ℕ → Option ℕ
taken_value [] line = None
taken_value (m ∷ ms) line = if m.0 == line then Some m.1 else None

abbrev pub taken_rest : List (ℕ × ℕ) → ℕ → List (ℕ × ℕ)
taken_rest [] line = []
taken_rest (m ∷ ms) line = if m.0 == line then ms else m ∷ ms

-- the multiplier that a change makes of the one before it, if it changes it
abbrev pub own_of : ℕ → Option ℕ → Option ℕ
own_of before None = Some before
own_of before (Some own) = if own == before then None else Some own
