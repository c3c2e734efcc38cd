use Rattle.std.specs.Prelude.{ℕ, List, [], ◌∷◌, ◌++◌, codes, decimal}

-- the line that is printed at the end of input: how many commands the journal holds
abbrev pub held_text : ℕ → List ℕ
held_text count = codes "HELD," ++ (decimal count ++ 10 ∷ [])
