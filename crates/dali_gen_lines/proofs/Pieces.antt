use Rattle.std.proofs.Common.{◌≡◌, ◌∙◌, ℕ, zero, suc, ◌+◌, ◌/◌, ◌%◌, ◌^◌, ◌<◌, ◌≤◌, Bool, true, List, [], ◌∷◌, ◌++◌, length, map, refl, arith, length-append}
use Rattle.std.proofs.lemmas.Bool.Decides.{nat_tests}
use Rattle.std.specs.List.{list_all, range_with_len}
use Rattle.std.specs.Prelude.{decimal, codes, nat_le, ◌&&◌}
use Rattle.dali_base.specs.Spelling.{two_digits}
use Rattle.dali_base.proofs.Spelled.{and_parts, both}
use Rattle.dali_line.proofs.Plain.{is_piece_byte, list_all-weaker, decimal_piece}
use Rattle.dali_gen.specs.Instructions.{account_name, code_name}
use Rattle.dali_gen_lines.specs.Plain.{is_plain_byte, is_plain}

pub list_all-append : {X : Type 0} (p : X → Bool) (xs ys : List X) → list_all p xs ≡ true → list_all p ys ≡ true → list_all p (xs ++ ys) ≡ true
list_all-append p [] ys first second = second
list_all-append p (x ∷ xs) ys first second =
    let parts = and_parts (p x) (list_all p xs) first in
    both (p x) (list_all p (xs ++ ys)) parts.0 (list_all-append p xs ys parts.1 second)

-- some bytes of a plain line, at most so many
pub record Piece (most : ℕ) (xs : List ℕ) : Type 0 where
  pub bytes : list_all is_plain_byte xs ≡ true
  pub short : length xs ≤ most

pub piece_more : (m n : ℕ) (xs : List ℕ) → m ≤ n → Piece m xs → Piece n xs
piece_more m n xs more p = record { bytes = p.bytes; short = omega (arith, p.short, more) }

pub piece_append : (m n : ℕ) (xs ys : List ℕ) → Piece m xs → Piece n ys → Piece (m + n) (xs ++ ys)
piece_append m n xs ys p q = record {
  bytes = list_all-append is_plain_byte xs ys p.bytes q.bytes;
  short = omega (arith, length-append xs ys, p.short, q.short);
}

pub piece_comma : (m : ℕ) (xs : List ℕ) → Piece m xs → Piece (1 + m) (44 ∷ xs)
piece_comma m xs p = record { bytes = p.bytes; short = omega (arith, p.short) }

-- a text that is written out
pub piece_text : (xs : List ℕ) → list_all is_plain_byte xs ≡ true → Piece (length xs) xs
piece_text xs told = record { bytes = told; short = omega arith }

weaker : (b : ℕ) → is_piece_byte b ≡ true → is_plain_byte b ≡ true
weaker b told = grind (arith, nat_tests, told)

short_digits : (n : ℕ) → nat_le n 16 ≡ true → n ≤ 16
short_digits n told = grind (arith, nat_tests, told)

pub piece_decimal : (n : ℕ) → n < 10 ^ 16 → Piece 16 (decimal n)
piece_decimal n small =
    let parts = and_parts (list_all is_piece_byte (decimal n)) (nat_le (length (decimal n)) 16) (decimal_piece n small) in
    record { bytes = list_all-weaker is_piece_byte is_plain_byte weaker (decimal n) parts.0; short = short_digits (length (decimal n)) parts.1 }

digit : (d : ℕ) → is_plain_byte (48 + d) ≡ true
digit d = grind (arith, nat_tests)

two : (a b : ℕ) → Piece 2 ((48 + a) ∷ (48 + b) ∷ [])
two a b = record { bytes = both (is_plain_byte (48 + a)) (list_all is_plain_byte ((48 + b) ∷ [])) (digit a) (both (is_plain_byte (48 + b)) true (digit b) refl); short = omega arith }

pub piece_two : (n : ℕ) → Piece 2 (two_digits n)
piece_two n = two (n / 10) (n % 10)

pub piece_account : (account : ℕ) → Piece 3 (account_name account)
piece_account account = piece_append 1 2 (codes "A") (two_digits (account + 1)) (piece_text (codes "A") refl) (piece_two (account + 1))

pub piece_code : (code : ℕ) → Piece 3 (code_name code)
piece_code code = piece_append 1 2 (codes "I") (two_digits (code + 1)) (piece_text (codes "I") refl) (piece_two (code + 1))

test_short : (n : ℕ) → n ≤ 200 → nat_le n 200 ≡ true
test_short n short = grind (arith, nat_tests, short)

test_some : (n : ℕ) → 0 < n → nat_le 1 n ≡ true
test_some n some = grind (arith, nat_tests, some)

-- pieces of at most 200 bytes are a plain line
pub line_plain : (most : ℕ) (line : List ℕ) → most ≤ 200 → 0 < length line → Piece most line → is_plain line ≡ true
line_plain most line small some p =
    both (nat_le 1 (length line) && nat_le (length line) 200) (list_all is_plain_byte line)
    (both (nat_le 1 (length line)) (nat_le (length line) 200) (test_some (length line) some) (test_short (length line) (omega (arith, small, p.short))))
    p.bytes

pub some_append : (xs ys : List ℕ) → 0 < length xs → 0 < length (xs ++ ys)
some_append xs ys some = omega (arith, some, length-append xs ys)

-- lines by their numbers
pub all_in_range : (f : ℕ → List ℕ) (a n : ℕ) → ((k : ℕ) → a ≤ k → k < a + n → is_plain (f k) ≡ true) → list_all is_plain (map f (range_with_len a n)) ≡ true
all_in_range f a zero each = refl
all_in_range f a (suc n) each =
    both (is_plain (f a)) (list_all is_plain (map f (range_with_len (a + 1) n)))
    (each a (omega arith) (omega arith))
    (all_in_range f (a + 1) n (λ k low high. each k (omega (arith, low)) (omega (arith, high))))
