use Rattle.std.specs.Prelude.{ℕ, List, [], ◌∷◌, ◌++◌}

-- a row of text: fields joined by commas, ended by LF
abbrev pub row_text : List (List ℕ) → List ℕ
row_text [] = 10 ∷ []
row_text (field ∷ []) = field ++ 10 ∷ []
row_text (field ∷ next ∷ fields) = field ++ 44 ∷ row_text (next ∷ fields)
