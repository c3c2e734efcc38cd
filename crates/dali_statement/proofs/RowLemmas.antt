use Rattle.std.proofs.Common.{◌≡◌, ℕ, ◌<◌, false, cond, List, [], ◌∷◌, ◌++◌, length, Option, Some, None, ap, ◌∙◌, append_assoc, arith}
use Rattle.std.specs.Io.KnownBytes.{Appends}
use Rattle.std.specs.List.{AllByRecursion}
use Rattle.std.proofs.lemmas.List.{append-nil}
use Rattle.csv.specs.Writing as csv
use Rattle.csv.specs.Writing.{default_writer, needs_quotes, field_text, fields_text, quoted, is_blank}
use Rattle.dali_waiting.specs.RowText.{row_text}

abbrev pub IsPlain : List ℕ → Type 0
IsPlain field = needs_quotes default_writer field ≡ false

as_is : (field : List ℕ) → IsPlain field → field_text default_writer field ≡ field
as_is field plain = ap (λ q. cond q (quoted default_writer field) field) plain

-- fields behind the first one
rest_text : (field : List ℕ) (fields : List (List ℕ)) → AllByRecursion IsPlain fields → (field ++ fields_text default_writer fields) ++ 10 ∷ [] ≡ row_text (field ∷ fields)
unfolding fields_text
rest_text field [] plain = ap (λ t. t ++ 10 ∷ []) (append-nil field)
rest_text field (next ∷ fields) plain =
    append_assoc field (44 ∷ (field_text default_writer next ++ fields_text default_writer fields)) (10 ∷ [])
    ∙ ap (λ t. field ++ 44 ∷ ((t ++ fields_text default_writer fields) ++ 10 ∷ [])) (as_is next plain.0)
    ∙ ap (λ t. field ++ 44 ∷ t) (rest_text next fields plain.1)

-- a row of several fields that need no quotes is these fields joined
pub plain_row : (fields : List (List ℕ)) → 1 < length fields → AllByRecursion IsPlain fields → csv.row_text default_writer fields ≡ row_text fields
unfolding is_blank
plain_row [] several plain = absurd (omega (arith, several))
plain_row (field ∷ []) several plain = absurd (omega (arith, several))
plain_row (field ∷ next ∷ fields) several plain =
    ap (λ t. (t ++ fields_text default_writer (next ∷ fields)) ++ 10 ∷ []) (as_is field plain.0) ∙ rest_text field (next ∷ fields) plain.1

-- known text that grew
pub appended : (old new : Option (List ℕ)) (xs bs : List ℕ) → old ≡ Some xs → Appends old new bs → new ≡ Some (xs ++ bs)
appended None new xs bs is grew = absurd (cc)
appended (Some ys) None xs bs is grew = absurd grew
appended (Some ys) (Some zs) xs bs is grew = let same : ys ≡ xs = cc in ap Some (grew ∙ ap (λ t. t ++ bs) same)
