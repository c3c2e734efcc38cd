use Rattle.std.proofs.Common.{◌≡◌, ℕ, ◌+◌, ◌*◌, ◌/◌, ◌≤◌, Bool, true, not, eqb, List, [], ◌∷◌, ◌++◌, length, refl, sym, ap, arith, length-append, append-nil}
use Rattle.std.proofs.lemmas.Bool.Decides.{nat_tests}
use Rattle.std.specs.List.{list_all, join_with_byte}
use Rattle.std.specs.Prelude.{nat_le, ◌&&◌, IsTrue}
use Rattle.dali_base.specs.Spelling.{moment_digits}
use Rattle.dali_base.proofs.Spelled.{and_parts, both}
use Rattle.dali_line.specs.Commands.{is_command}
use Rattle.dali_line.specs.Line.{is_line}
use Rattle.dali_line.specs.Writing.{after_commas}
use Rattle.dali_line.proofs.Plain.{is_piece, is_piece_byte, list_all-weaker, moment_piece}

-- pieces joined by commas are the first, and the others each behind a comma
pub joined : (x : List ℕ) (xs : List (List ℕ)) → join_with_byte 44 (x ∷ xs) ≡ x ++ after_commas xs
joined x [] = sym (append-nil x)
joined x (y ∷ ys) = ap (λ rest. x ++ (44 ∷ rest)) (joined y ys)

-- no LF
abbrev no_newline : ℕ → Bool
no_newline b = not (eqb b 10)

piece_byte : (b : ℕ) → is_piece_byte b ≡ true → no_newline b ≡ true
piece_byte b told = grind (arith, nat_tests, told)

list_all-append : (p : ℕ → Bool) (xs ys : List ℕ) → list_all p xs ≡ true → list_all p ys ≡ true → list_all p (xs ++ ys) ≡ true
list_all-append p [] ys first second = second
list_all-append p (x ∷ xs) ys first second =
    let parts = and_parts (p x) (list_all p xs) first in
    both (p x) (list_all p (xs ++ ys)) parts.0 (list_all-append p xs ys parts.1 second)

one_line : (ps : List (List ℕ)) → list_all is_piece ps ≡ true → list_all no_newline (after_commas ps) ≡ true
one_line [] told = refl
one_line (p ∷ ps) told =
    let parts = and_parts (is_piece p) (list_all is_piece ps) told in
    let piece = and_parts (list_all is_piece_byte p) (nat_le (length p) 16) parts.0 in
    list_all-append no_newline (44 ∷ p) (after_commas ps)
    (list_all-weaker is_piece_byte no_newline piece_byte p piece.0) (one_line ps parts.1)

short_line : (ps : List (List ℕ)) → list_all is_piece ps ≡ true → length (after_commas ps) ≤ 17 * length ps
short_line [] told = omega arith
short_line (p ∷ ps) told =
    let parts = and_parts (is_piece p) (list_all is_piece ps) told in
    let piece = and_parts (list_all is_piece_byte p) (nat_le (length p) 16) parts.0 in
    let short : length p ≤ 16 = grind (arith, nat_tests, piece.1) in
    omega (arith, short, short_line ps parts.1, length-append (44 ∷ p) (after_commas ps))

-- a moment's first digit isn't '#'
begins : (a : ℕ) → not (eqb (48 + a) 35) ≡ true
begins a = grind (arith, nat_tests)

within : (n : ℕ) → n ≤ 200 → nat_le n 200 ≡ true
within n short = grind (arith, nat_tests, short)

-- the spelling of a command is a line
pub spelled_line : (s : ℕ) (ps : List (List ℕ)) → list_all is_piece ps ≡ true → length ps ≤ 7 → IsTrue (is_line (moment_digits s ++ after_commas ps))
spelled_line s ps told few =
    let moment = and_parts (list_all is_piece_byte (moment_digits s)) (nat_le (length (moment_digits s)) 16) (moment_piece s) in
    let bytes = moment_digits s ++ after_commas ps in
    let long : length bytes ≤ 200 = omega (arith, short_line ps told, few) in
    both (is_command bytes && nat_le (length bytes) 200) (list_all no_newline bytes)
    (both (is_command bytes) (nat_le (length bytes) 200) (begins (s / 3600 / 10)) (within (length bytes) long))
    (list_all-append no_newline (moment_digits s) (after_commas ps)
    (list_all-weaker is_piece_byte no_newline piece_byte (moment_digits s) moment.0) (one_line ps told))
