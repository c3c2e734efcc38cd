use Rattle.std.specs.Prelude.{ℕ, if◌then◌else◌, List, [], ◌∷◌, ◌++◌, map, codes, decimal}
use Rattle.std.specs.Fmt.{signed_decimal}
use Rattle.std.specs.List.{flat_map}
use Rattle.dali_problem.specs.declared.row.Effect.{Effect}
use Rattle.dali_tree.specs.declared.fix.Fix.{Fix}
use Rattle.dali_tree.specs.declared.fix.Fix.TheVariants.{Barred, Needed, Safe}
use Rattle.dali_cert_print.specs.declared.row.Row.{Row}
use Rattle.dali_cert_print.specs.declared.row.Row.TheVariants as rows

-- A row is a line of a block: its word, and each of its fields behind a comma. The line ends by LF.

-- the word of a fix
abbrev pub fix_word : Fix → List ℕ
fix_word (Barred place line) = codes "BARRED"
fix_word (Needed place line) = codes "NEEDED"
fix_word (Safe place) = codes "SAFE"

-- the word of a row
abbrev pub word_of : Row → List ℕ
word_of (rows.Block wide) = codes "BLOCK"
word_of (rows.Budget budget) = codes "BUDGET"
word_of (rows.Line line) = codes "LINE"
word_of (rows.Item id value effects) = codes "ITEM"
word_of (rows.Set places) = codes "SET"
word_of (rows.Part bound members) = codes "PART"
word_of (rows.Fix fix) = fix_word fix
word_of (rows.Bound lam) = codes "BOUND"
word_of (rows.Short line) = codes "SHORT"
word_of (rows.Branch place lam) = codes "BRANCH"
word_of rows.Last = codes "LAST"

-- the field of an effect: its line, a colon and the amount, signed where it is negative
abbrev pub effect_field : Effect → List ℕ
effect_field e = decimal e.line ++ 58 ∷ signed_decimal e.amount

-- the field of a multiplier: its line, a colon and the multiplier
abbrev pub multiplier_field : ℕ × ℕ → List ℕ
multiplier_field m = decimal m.0 ++ 58 ∷ decimal m.1

-- the fields of a fix
abbrev pub fix_fields : Fix → List (List ℕ)
fix_fields (Barred place line) = decimal place ∷ decimal line ∷ []
fix_fields (Needed place line) = decimal place ∷ decimal line ∷ []
fix_fields (Safe place) = decimal place ∷ []

-- the fields of a row
abbrev pub fields_of : Row → List (List ℕ)
fields_of (rows.Block wide) = (if wide then codes "2" else codes "1") ∷ []
fields_of (rows.Budget budget) = decimal budget ∷ []
fields_of (rows.Line line) = line.account ∷ line.asset ∷ decimal line.balance ∷ []
fields_of (rows.Item id value effects) = id ∷ decimal value ∷ map effect_field effects
fields_of (rows.Set places) = map decimal places
fields_of (rows.Part bound members) = decimal bound ∷ map decimal members
fields_of (rows.Fix fix) = fix_fields fix
fields_of (rows.Bound lam) = map multiplier_field lam
fields_of (rows.Short line) = decimal line ∷ []
fields_of (rows.Branch place lam) = decimal place ∷ map multiplier_field lam
fields_of rows.Last = []

-- each field behind a comma
abbrev pub after_commas : List (List ℕ) → List ℕ
after_commas fields = flat_map (λ field. 44 ∷ field) fields

-- the line of a row, without its LF
abbrev pub row_line : Row → List ℕ
row_line row = word_of row ++ after_commas (fields_of row)

abbrev pub row_text : Row → List ℕ
row_text row = row_line row ++ 10 ∷ []

-- the text of rows, one after the other
abbrev pub rows_text : List Row → List ℕ
rows_text list = flat_map row_text list
