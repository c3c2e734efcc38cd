use Rattle.std.proofs.Common.{◌≡◌, ◌∙◌, ℕ, ◌^◌, ◌<◌, ◌≤◌, Bool, true, false, not, eqb, zero, suc, Some, List, [], ◌∷◌, ◌++◌, length, map, get_or, refl, sym, ap, arith, ℤ, pos, negsuc}
use Rattle.std.proofs.lemmas.Bool.Decides.{nat_tests}
use Rattle.std.proofs.lemmas.Int.{ints}
use Rattle.std.proofs.lemmas.List.{append-nil}
use Rattle.std.proofs.lemmas.List.Elements.{All-from_get_or, All-head, All-tail}
use Rattle.std.proofs.lemmas.List.Folds.{list_all-append}
use Rattle.std.proofs.lemmas.List.Splits.{slice_split_at, slice_split_none, join_with_byte-slice_split}
use Rattle.std.specs.Fmt.{signed_decimal}
use Rattle.std.specs.List.{list_all, join_with_byte, All}
use Rattle.std.specs.Prelude.{decimal, IsTrue, ◌&&◌, nat_le, nat_lt}
use Rattle.dali_base.specs.Spelling.{is_name, is_name_byte}
use Rattle.dali_base.proofs.Spelled.{and_parts, both}
use Rattle.dali_problem.specs.declared.row.Effect.{Effect}
use Rattle.dali_tree.specs.declared.fix.Fix.TheVariants.{Barred, Needed, Safe}
use Rattle.dali_tree.specs.Fits.{multiplier_fits, is_rising}
use Rattle.dali_cert_print.specs.declared.row.Row.{Row}
use Rattle.dali_cert_print.specs.declared.row.Row.TheVariants as rows
use Rattle.dali_cert_print.specs.Rows.{word_of, fields_of, effect_field, multiplier_field, after_commas, row_line}
use Rattle.dali_cert_text.specs.Rowed.{IsRow}
use Rattle.dali_cert_text.specs.Fields.{pieces}
use Rattle.dali_cert_text.specs.Reading.{row_with, row_of}
use Rattle.dali_cert_text.specs.Form.{is_line}
use Rattle.dali_cert_text.proofs.FieldLaws.{is_field, decimal_digits, IsAmount}
use Rattle.dali_cert_text.proofs.RowLaws.{with_is, with_again}

-- A line is read as a row exactly where it is the row's line.

-- ---- no comma and no LF in a word or a field

no_comma : (xs : List ℕ) → is_field xs ≡ true → (i : ℕ) → i < length xs → eqb (get_or xs i 0) 44 ≡ false
no_comma [] told i within = absurd (omega (arith, within))
no_comma (x ∷ xs) told zero within = grind (arith, nat_tests, and_parts (nat_le 45 x) (is_field xs) told)
no_comma (x ∷ xs) told (suc i) within = no_comma xs (and_parts (nat_le 45 x) (is_field xs) told).1 i (omega (arith, within))

plain : (xs : List ℕ) → is_field xs ≡ true → All (λ b. eqb b 44 ≡ false) xs
plain xs told = All-from_get_or (λ b. eqb b 44 ≡ false) xs 0 (no_comma xs told)

pieces_back : (word : List ℕ) (fields : List (List ℕ)) → is_field word ≡ true → list_all is_field fields ≡ true →
    pieces (word ++ after_commas fields) ≡ word ∷ fields
pieces_back word [] told others = ap pieces (append-nil word) ∙ slice_split_none (λ b. eqb b 44) word (plain word told)
pieces_back word (field ∷ fields) told others =
    let parts = and_parts (is_field field) (list_all is_field fields) others in
    slice_split_at (λ b. eqb b 44) word 44 (field ++ after_commas fields) (plain word told) refl
    ∙ ap (λ (ps : List (List ℕ)). word ∷ ps) (pieces_back field fields parts.0 parts.1)

joined : (word : List ℕ) (fields : List (List ℕ)) → join_with_byte 44 (word ∷ fields) ≡ word ++ after_commas fields
joined word [] = sym (append-nil word)
joined word (field ∷ fields) = ap (λ (t : List ℕ). word ++ 44 ∷ t) (joined field fields)

list_weaker : {A : Type 0} (p q : A → Bool) → ((x : A) → p x ≡ true → q x ≡ true) → (xs : List A) → list_all p xs ≡ true → list_all q xs ≡ true
list_weaker p q weaker [] told = refl
list_weaker p q weaker (x ∷ xs) told =
    let parts = and_parts (p x) (list_all p xs) told in
    both (q x) (list_all q xs) (weaker x parts.0) (list_weaker p q weaker xs parts.1)

digit_in : (b : ℕ) → (nat_le 48 b && nat_le b 57) ≡ true → nat_le 45 b ≡ true
digit_in b told = grind (arith, nat_tests, told)

name_in : (b : ℕ) → is_name_byte b ≡ true → nat_le 45 b ≡ true
name_in b told = grind (arith, nat_tests, told)

decimal_in : (n : ℕ) → n < 2 ^ 64 → is_field (decimal n) ≡ true
decimal_in n small = list_weaker (λ b. nat_le 48 b && nat_le b 57) (λ b. nat_le 45 b) digit_in (decimal n) (decimal_digits n small)

names_in : (name : List ℕ) → IsTrue (is_name name) → is_field name ≡ true
names_in name told = list_weaker is_name_byte (λ b. nat_le 45 b) name_in name (and_parts _ (list_all is_name_byte name) told).1

signed_in : (z : ℤ) → IsAmount z → is_field (signed_decimal z) ≡ true
signed_in (pos n) is = decimal_in n (omega (arith, ints, is.bounded.high))
signed_in (negsuc n) is = decimal_in (suc n) (omega (arith, ints, is.bounded.low))

-- two fields around a colon
colon_in : (a b : List ℕ) → is_field a ≡ true → is_field b ≡ true → is_field (a ++ 58 ∷ b) ≡ true
colon_in a b first second = list_all-append (λ c. nat_le 45 c) a (58 ∷ b) ∙ both (is_field a) (is_field b) first second

fields_of_each : {A : Type 0} (text : A → List ℕ) (P : A → Type 0) → ((x : A) → P x → is_field (text x) ≡ true) → (xs : List A) → All P xs → list_all is_field (map text xs) ≡ true
fields_of_each text P one [] all = refl
fields_of_each text P one (x ∷ xs) all =
    both (is_field (text x)) (list_all is_field (map text xs)) (one x (All-head P x xs all)) (fields_of_each text P one xs (All-tail P x xs all))

multipliers_in : (lines : ℕ) (lam : List (ℕ × ℕ)) → lines ≤ 2 ^ 32 → list_all (multiplier_fits lines) lam ≡ true → list_all is_field (map multiplier_field lam) ≡ true
multipliers_in lines [] few told = refl
multipliers_in lines (m ∷ lam) few told =
    let parts = and_parts (multiplier_fits lines m) (list_all (multiplier_fits lines) lam) told in
    let tests = and_parts (nat_lt m.0 lines && nat_le 1 m.1) (nat_le m.1 (2 ^ 44)) parts.0 in
    let line : m.0 < lines = grind (arith, nat_tests, (and_parts (nat_lt m.0 lines) (nat_le 1 m.1) tests.0).0) in
    let most : m.1 ≤ 2 ^ 44 = grind (arith, nat_tests, tests.1) in
    both (is_field (multiplier_field m)) (list_all is_field (map multiplier_field lam))
    (colon_in (decimal m.0) (decimal m.1) (decimal_in m.0 (omega (arith, line, few))) (decimal_in m.1 (omega (arith, most))))
    (multipliers_in lines lam few parts.1)

one_field : (a : List ℕ) (fs : List (List ℕ)) → is_field a ≡ true → list_all is_field fs ≡ true → list_all is_field (a ∷ fs) ≡ true
one_field a fs first rest = both (is_field a) (list_all is_field fs) first rest

test_less : (n end : ℕ) → nat_lt n end ≡ true → end ≤ 2 ^ 32 → n < 2 ^ 64
test_less n end told few = let below : n < end = grind (arith, nat_tests, told) in omega (arith, below, few)

pub words_in : (row : Row) → is_field (word_of row) ≡ true
words_in (rows.Block wide) = refl
words_in (rows.Budget b) = refl
words_in (rows.Line line) = refl
words_in (rows.Item id value effects) = refl
words_in (rows.Set places) = refl
words_in (rows.Part bound members) = refl
words_in (rows.Fix (Barred place line)) = refl
words_in (rows.Fix (Needed place line)) = refl
words_in (rows.Fix (Safe place)) = refl
words_in (rows.Bound lam) = refl
words_in (rows.Short line) = refl
words_in (rows.Branch place lam) = refl
words_in rows.Last = refl

record IsEffectAt (lines : ℕ) (e : Effect) : Type 0 where
  below : e.line < lines
  amount : IsAmount e.amount

module _ (items lines : ℕ) (few_items : items ≤ 2 ^ 32) (few_lines : lines ≤ 2 ^ 32) where
  places_in : (places : List ℕ) → All (λ n. n < items) places → list_all is_field (map decimal places) ≡ true
  places_in places all = fields_of_each decimal (λ n. n < items) (λ n below. decimal_in n (omega (arith, below, few_items))) places all

  pub fields_in_row : (row : Row) → IsRow items lines row → list_all is_field (fields_of row) ≡ true
  fields_in_row (rows.Block true) is = refl
  fields_in_row (rows.Block false) is = refl
  fields_in_row (rows.Budget b) is = one_field (decimal b) [] (decimal_in b (omega (arith, is))) refl
  fields_in_row (rows.Line line) is =
      one_field line.account (line.asset ∷ decimal line.balance ∷ []) (names_in line.account is.0)
      (one_field line.asset (decimal line.balance ∷ []) (names_in line.asset is.1) (one_field (decimal line.balance) [] (decimal_in line.balance (omega (arith, is.2))) refl))
  fields_in_row (rows.Item id value effects) is =
      one_field id (decimal value ∷ map effect_field effects) (names_in id is.0)
      (one_field (decimal value) (map effect_field effects) (decimal_in value (omega (arith, is.2)))
      (fields_of_each effect_field (IsEffectAt lines) (λ e h. colon_in (decimal e.line) (signed_decimal e.amount) (decimal_in e.line (omega (arith, h.below, few_lines))) (signed_in e.amount h.amount)) effects
      (λ k d below. record { below = is.3.in_range k d below; amount = record { not_zero = is.3.not_zero k d below; bounded = is.3.bounded k d below } })))
  fields_in_row (rows.Set places) is = places_in places is.in_range
  fields_in_row (rows.Part bound members) is = one_field (decimal bound) (map decimal members) (decimal_in bound (omega (arith, is.0))) (places_in members is.2.in_range)
  fields_in_row (rows.Fix (Barred place line)) is =
      let tests = and_parts (nat_lt place items) (nat_lt line lines) is in
      one_field (decimal place) (decimal line ∷ []) (decimal_in place (test_less place items tests.0 few_items)) (one_field (decimal line) [] (decimal_in line (test_less line lines tests.1 few_lines)) refl)
  fields_in_row (rows.Fix (Needed place line)) is =
      let tests = and_parts (nat_lt place items) (nat_lt line lines) is in
      one_field (decimal place) (decimal line ∷ []) (decimal_in place (test_less place items tests.0 few_items)) (one_field (decimal line) [] (decimal_in line (test_less line lines tests.1 few_lines)) refl)
  fields_in_row (rows.Fix (Safe place)) is = one_field (decimal place) [] (decimal_in place (test_less place items is few_items)) refl
  fields_in_row (rows.Bound lam) is = multipliers_in lines lam few_lines (and_parts (list_all (multiplier_fits lines) lam) (is_rising (map (λ (m : ℕ × ℕ). m.0) lam)) is).0
  fields_in_row (rows.Short line) is = one_field (decimal line) [] (decimal_in line (omega (arith, is, few_lines))) refl
  fields_in_row (rows.Branch place lam) is =
      one_field (decimal place) (map multiplier_field lam) (decimal_in place (omega (arith, is.0, few_items)))
      (multipliers_in lines lam few_lines (and_parts (list_all (multiplier_fits lines) lam) (is_rising (map (λ (m : ℕ × ℕ). m.0) lam)) is.1).0)
  fields_in_row rows.Last is = refl

  -- the line of a row is read as that row
  pub row_again : (row : Row) → IsRow items lines row → row_of items lines (row_line row) ≡ Some row
  unfolding row_of
  row_again row is =
      ap (row_with items lines) (pieces_back (word_of row) (fields_of row) (words_in row) (fields_in_row row is)) ∙ with_again items lines few_items few_lines row is

  byte_in_line : (b : ℕ) → nat_le 45 b ≡ true → not (eqb b 10) ≡ true
  byte_in_line b told = grind (arith, nat_tests, told)

  field_in_line : (xs : List ℕ) → is_field xs ≡ true → is_line xs ≡ true
  field_in_line xs told = list_weaker (λ b. nat_le 45 b) (λ b. not (eqb b 10)) byte_in_line xs told

  commas_in_line : (fields : List (List ℕ)) → list_all is_field fields ≡ true → is_line (after_commas fields) ≡ true
  commas_in_line [] told = refl
  commas_in_line (field ∷ fields) told =
      let parts = and_parts (is_field field) (list_all is_field fields) told in
      list_all-append (λ b. not (eqb b 10)) field (after_commas fields) ∙ both (is_line field) (is_line (after_commas fields)) (field_in_line field parts.0) (commas_in_line fields parts.1)

  -- and has no LF
  pub row_is_line : (row : Row) → IsRow items lines row → is_line (row_line row) ≡ true
  row_is_line row is =
      list_all-append (λ b. not (eqb b 10)) (word_of row) (after_commas (fields_of row))
      ∙ both (is_line (word_of row)) (is_line (after_commas (fields_of row))) (field_in_line (word_of row) (words_in row)) (commas_in_line (fields_of row) (fields_in_row row is))

-- what is read is the line of a row
row_from : (items lines : ℕ) (line : List ℕ) (ps : List (List ℕ)) (row : Row) → pieces line ≡ ps → row_with items lines ps ≡ Some row → (line ≡ row_line row) × IsRow items lines row
row_from items lines line [] row cut told = absurd cc
row_from items lines line (word ∷ fields) row cut told =
    let spelt = with_is items lines word fields row told in (
      sym (join_with_byte-slice_split 44 line) ∙ ap (join_with_byte 44) cut ∙ joined word fields
          ∙ ap (λ (w : List ℕ). w ++ after_commas fields) spelt.word_is ∙ ap (λ (fs : List (List ℕ)). word_of row ++ after_commas fs) spelt.fields_are,
      spelt.is,
    )

pub row_is : (items lines : ℕ) (line : List ℕ) (row : Row) → row_of items lines line ≡ Some row → (line ≡ row_line row) × IsRow items lines row
unfolding row_of
row_is items lines line row told = row_from items lines line (pieces line) row refl told
