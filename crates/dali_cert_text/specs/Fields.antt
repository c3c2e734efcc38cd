use Rattle.std.specs.Prelude.{ℕ, ◌+◌, ◌-◌, ◌^◌, ◌==◌, ◌&&◌, nat_lt, nat_le, Option, Some, None, option_and_then, if◌then◌else◌, List, [], ◌∷◌, take, drop, position, ℤ, pos, neg_ℤ}
use Rattle.std.specs.List.{slice_split}
use Rattle.dali_base.specs.Limits.{most_effect, most_multiplier}
use Rattle.dali_base.specs.Readers.{spelled_name, spelled_number}
use Rattle.dali_problem.specs.declared.row.Effect.{Effect}

-- What a row's fields stand for, as functions on bytes, for private functions. That they are the spellings of
-- specs/Rows.antt, both ways, is told by the clauses of `read_block`.

-- the pieces between commas
abbrev pub pieces : List ℕ → List (List ℕ)
pieces bytes = slice_split (λ b. b == 44) bytes

-- the fields that stand behind a word or a field, the first behind a comma
abbrev pub fields_in : List ℕ → List (List ℕ)
fields_in [] = []
fields_in (comma ∷ bytes) = pieces bytes

-- the first of a list and the others
abbrev pub first_of : {A : Type 0} → List A → Option (A × List A)
first_of [] = None
first_of (x ∷ xs) = Some (x, xs)

-- a value, where nothing stands behind it
abbrev pub alone : {A : Type 0} → List (List ℕ) → A → Option A
alone [] x = Some x
alone (field ∷ fields) x = None

-- the number that a field spells, at most max, and the fields behind it
unfoldable pub number_of : ℕ → List (List ℕ) → Option (ℕ × List (List ℕ))
number_of max fields = option_and_then (λ f. option_and_then (λ n. Some (n, f.1)) (spelled_number max f.0)) (first_of fields)

-- the name that a field is, and the fields behind it
unfoldable pub name_of : List (List ℕ) → Option (List ℕ × List (List ℕ))
name_of fields = option_and_then (λ f. option_and_then (λ n. Some (n, f.1)) (spelled_name f.0)) (first_of fields)

-- the number from low to below end that the bytes spell
unfoldable pub number_below : ℕ → ℕ → List ℕ → Option ℕ
number_below end low bytes = option_and_then (λ n. if nat_le low n && nat_lt n end then Some n else None) (spelled_number (2 ^ 32 - 1) bytes)

-- the number below end that a field spells, and the fields behind it
unfoldable pub place_of : ℕ → List (List ℕ) → Option (ℕ × List (List ℕ))
place_of end fields = option_and_then (λ f. option_and_then (λ n. Some (n, f.1)) (number_below end 0 f.0)) (first_of fields)

-- the number from low to high that the bytes spell
unfoldable pub number_within : ℕ → ℕ → List ℕ → Option ℕ
number_within low high bytes = option_and_then (λ n. if nat_le low n then Some n else None) (spelled_number high bytes)

-- the bytes before the first colon, and those behind it
unfoldable pub cut_at_colon : List ℕ → Option (List ℕ × List ℕ)
cut_at_colon bytes = option_and_then (λ i. Some (take i bytes, drop (i + 1) bytes)) (position (λ b. b == 58) bytes)

-- the amount that the bytes spell: not 0, at most 8 * 10^15 in size
unfoldable pub amount_of : List ℕ → Option ℤ
amount_of [] = None
amount_of (b ∷ bytes) =
    if b == 45 then option_and_then (λ n. Some (neg_ℤ (pos n))) (number_within 1 most_effect bytes)
    else option_and_then (λ n. Some (pos n)) (number_within 1 most_effect (b ∷ bytes))

-- the effect that a field spells, on a line from low to below end
unfoldable pub effect_of : ℕ → ℕ → List ℕ → Option Effect
effect_of end low field =
    option_and_then (λ cut. option_and_then (λ line. option_and_then (λ amount. Some (record { line = line; amount = amount }))
    (amount_of cut.1)) (number_below end low cut.0)) (cut_at_colon field)

-- the multiplier that a field spells, on a line from low to below end
unfoldable pub multiplier_of : ℕ → ℕ → List ℕ → Option (ℕ × ℕ)
multiplier_of end low field =
    option_and_then (λ cut. option_and_then (λ line. option_and_then (λ m. Some (line, m))
    (number_within 1 most_multiplier cut.1)) (number_below end low cut.0)) (cut_at_colon field)

-- what fields stand for, each read from a low number on that lies above the number of the one before
abbrev pub rising_of : {A : Type 0} → (ℕ → List ℕ → Option A) → (A → ℕ) → ℕ → List (List ℕ) → Option (List A)
rising_of read key low [] = Some []
rising_of read key low (field ∷ fields) =
    option_and_then (λ x. option_and_then (λ xs. Some (x ∷ xs)) (rising_of read key (key x + 1) fields)) (read low field)

-- rising places below end
unfoldable pub places_of : ℕ → ℕ → List (List ℕ) → Option (List ℕ)
places_of end low fields = rising_of (number_below end) (λ place. place) low fields

-- effects on rising lines below end
unfoldable pub effects_of : ℕ → ℕ → List (List ℕ) → Option (List Effect)
effects_of end low fields = rising_of (effect_of end) (λ e. e.line) low fields

-- multipliers on rising lines below end
unfoldable pub multipliers_of : ℕ → ℕ → List (List ℕ) → Option (List (ℕ × ℕ))
multipliers_of end low fields = rising_of (multiplier_of end) (λ m. m.0) low fields
