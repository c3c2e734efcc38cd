use Rattle.std.specs.Prelude.{ℕ, ◌+◌, List, [], ◌∷◌, take, drop}

-- the payloads of these lengths in a row of records
abbrev pub payloads : List ℕ → List ℕ → List (List ℕ)
payloads [] text = []
payloads (n ∷ lens) text = take n (drop 5 text) ∷ payloads lens (drop (n + 5) text)
