use Rattle.std.proofs.Common.{◌≡◌, ◌∙◌, ℕ, ◌+◌, ◌/◌, ◌%◌, ◌^◌, ◌<◌, ◌≤◌, Bool, true, false, not, eqb, zero, suc, List, [], ◌∷◌, length, get_or, refl, ap, arith}
use Rattle.std.proofs.lemmas.Bool.Decides.{nat_tests}
use Rattle.std.proofs.lemmas.List.Elements.{All-from_get_or}
use Rattle.std.proofs.lemmas.List.Splits.{slice_split_at, slice_split_none}
use Rattle.std.proofs.lemmas.Fmt.{digits_decimal, length-decimal-le}
use Rattle.std.specs.List.{list_all, join_with_byte, All}
use Rattle.std.specs.Str.{all_ascii_digits}
use Rattle.std.specs.Prelude.{decimal, IsTrue, ◌&&◌, nat_le}
use Rattle.dali_base.specs.Spelling.{is_name, is_name_byte, moment_digits}
use Rattle.dali_base.proofs.Spelled.{and_parts, both, own}
use Rattle.dali_line.specs.Reading.{pieces}

-- without a comma
abbrev pub is_plain : List ℕ → Bool
is_plain = list_all (λ b. not (eqb b 44))

pub no_comma : (xs : List ℕ) → is_plain xs ≡ true → (i : ℕ) → i < length xs → eqb (get_or xs i 0) 44 ≡ false
no_comma [] told i within = absurd (omega (arith, within))
no_comma (x ∷ xs) told zero within = grind (arith, nat_tests, and_parts (not (eqb x 44)) (is_plain xs) told)
no_comma (x ∷ xs) told (suc i) within = no_comma xs (and_parts (not (eqb x 44)) (is_plain xs) told).1 i (omega (arith, within))

pub all_plain : (xs : List ℕ) → is_plain xs ≡ true → All (λ b. eqb b 44 ≡ false) xs
all_plain xs told = All-from_get_or (λ b. eqb b 44 ≡ false) xs 0 (no_comma xs told)

-- pieces without a comma are found again between the commas that join them
pub split_join : (x : List ℕ) (xs : List (List ℕ)) → is_plain x ≡ true → list_all is_plain xs ≡ true →
    pieces (join_with_byte 44 (x ∷ xs)) ≡ x ∷ xs
split_join x [] plain others = slice_split_none (λ b. eqb b 44) x (all_plain x plain)
split_join x (y ∷ ys) plain others =
    let parts = and_parts (is_plain y) (list_all is_plain ys) others in
    slice_split_at (λ b. eqb b 44) x 44 (join_with_byte 44 (y ∷ ys)) (all_plain x plain) refl
    ∙ ap (λ ps. x ∷ ps) (split_join y ys parts.0 parts.1)

pub list_all-weaker : {A : Type 0} (p q : A → Bool) → ((x : A) → p x ≡ true → q x ≡ true) → (xs : List A) → list_all p xs ≡ true → list_all q xs ≡ true
list_all-weaker p q weaker [] told = refl
list_all-weaker p q weaker (x ∷ xs) told =
    let parts = and_parts (p x) (list_all p xs) told in
    both (q x) (list_all q xs) (weaker x parts.0) (list_all-weaker p q weaker xs parts.1)

-- what a piece of a command is made of: no comma, no LF, and at most 16 bytes
abbrev pub is_piece_byte : ℕ → Bool
is_piece_byte b = nat_le 45 b

abbrev pub is_piece : List ℕ → Bool
is_piece piece = list_all is_piece_byte piece && nat_le (length piece) 16

byte_of_name : (b : ℕ) → is_name_byte b ≡ true → is_piece_byte b ≡ true
byte_of_name b told = grind (arith, nat_tests, told)

not_a_comma : (b : ℕ) → is_piece_byte b ≡ true → not (eqb b 44) ≡ true
not_a_comma b told = grind (arith, nat_tests, told)

plain_piece : (piece : List ℕ) → is_piece piece ≡ true → is_plain piece ≡ true
plain_piece piece told = list_all-weaker is_piece_byte _ not_a_comma piece (and_parts (list_all is_piece_byte piece) (nat_le (length piece) 16) told).0

pub plain_pieces : (ps : List (List ℕ)) → list_all is_piece ps ≡ true → list_all is_plain ps ≡ true
plain_pieces ps told = list_all-weaker is_piece is_plain plain_piece ps told

name_short : (name : List ℕ) → IsTrue (is_name name) → nat_le (length name) 16 ≡ true
name_short name told = grind (arith, nat_tests, told)

pub name_piece : (name : List ℕ) → IsTrue (is_name name) → is_piece name ≡ true
name_piece name told =
    both (list_all is_piece_byte name) (nat_le (length name) 16)
    (list_all-weaker is_name_byte is_piece_byte byte_of_name name (and_parts _ (list_all is_name_byte name) told).1)
    (name_short name told)

digits_are_pieces : (ds : List ℕ) → all_ascii_digits ds ≡ true → list_all is_piece_byte ds ≡ true
digits_are_pieces [] told = refl
digits_are_pieces (d ∷ ds) told =
    let parts = and_parts _ (all_ascii_digits ds) told in
    both (is_piece_byte d) (list_all is_piece_byte ds) (grind (arith, nat_tests, parts.0)) (digits_are_pieces ds parts.1)

short_test : (n : ℕ) → n ≤ 16 → nat_le n 16 ≡ true
short_test n short = grind (arith, nat_tests, short)

pub decimal_piece : (n : ℕ) → n < 10 ^ 16 → is_piece (decimal n) ≡ true
decimal_piece n small =
    both (list_all is_piece_byte (decimal n)) (nat_le (length (decimal n)) 16)
    (digits_are_pieces (decimal n) (digits_decimal own n (omega (arith, small))))
    (short_test (length (decimal n)) (length-decimal-le 16 n (omega arith) small (omega (arith, small))))

digit : (a : ℕ) → is_piece_byte (48 + a) ≡ true
digit a = grind (arith, nat_tests)

six : (a b c d e f : ℕ) → is_piece ((48 + a) ∷ (48 + b) ∷ (48 + c) ∷ (48 + d) ∷ (48 + e) ∷ (48 + f) ∷ []) ≡ true
six a b c d e f = both (list_all is_piece_byte ((48 + a) ∷ (48 + b) ∷ (48 + c) ∷ (48 + d) ∷ (48 + e) ∷ (48 + f) ∷ [])) true
    (both _ _ (digit a) (both _ _ (digit b) (both _ _ (digit c) (both _ _ (digit d) (both _ _ (digit e) (both _ _ (digit f) refl)))))) refl

pub moment_piece : (s : ℕ) → is_piece (moment_digits s) ≡ true
moment_piece s = six (s / 3600 / 10) (s / 3600 % 10) (s / 60 % 60 / 10) (s / 60 % 60 % 10) (s % 60 / 10) (s % 60 % 10)

pub moment_plain : (s : ℕ) → is_plain (moment_digits s) ≡ true
moment_plain s = plain_piece (moment_digits s) (moment_piece s)
