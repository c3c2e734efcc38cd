use Rattle.std.specs.Prelude.{ℕ, List, [], ◌∷◌, ◌++◌, codes, decimal}
use Rattle.std.specs.Fmt.{signed_decimal}
use Rattle.std.specs.List.{flat_map}
use Rattle.dali_ledger.specs.declared.posting.Posting.{Posting}
use Rattle.dali_waiting.specs.RowText.{row_text}

abbrev pub header : List (List ℕ)
header = codes "number" ∷ codes "command" ∷ codes "account" ∷ codes "asset" ∷ codes "delta" ∷ codes "after" ∷ []

-- the fields of a posting's row
abbrev pub fields_of : Posting → List (List ℕ)
fields_of p = decimal p.number ∷ decimal p.command ∷ p.account ∷ p.asset ∷ signed_decimal p.delta ∷ decimal p.after ∷ []

-- the table of postings: the header row, and one row for each posting, in order
abbrev pub table : List Posting → List ℕ
table ps = row_text header ++ flat_map (λ p. row_text (fields_of p)) ps
