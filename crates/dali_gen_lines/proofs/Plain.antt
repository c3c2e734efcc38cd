use Rattle.std.proofs.Common.{◌≡◌, ◌∙◌, ℕ, zero, suc, ◌+◌, ◌-◌, ◌<◌, ◌≤◌, Bool, true, false, not, eqb, cond, List, [], ◌∷◌, ◌++◌, length, take, get_or, refl, sym, ap, arith, append_assoc}
use Rattle.std.proofs.lemmas.Bool.Decides.{nat_tests}
use Rattle.std.proofs.lemmas.List.Elements.{All-from_get_or}
use Rattle.std.proofs.lemmas.List.Splits.{slice_split_at}
use Rattle.std.specs.List.{slice_split, list_all, All}
use Rattle.std.specs.Prelude.{filter, nat_le, ◌&&◌, IsTrue}
use Rattle.std.specs.Str.Lines.{lines_of_parts, strip_carriage_return}
use Rattle.dali_base.proofs.Spelled.{and_parts, both}
use Rattle.dali_line.specs.Commands.{is_command, commands}
use Rattle.dali_line.specs.Line.{is_line}
use Rattle.dali_line.proofs.Cuts.{line_ended, is_cut}
use Rattle.dali_line.proofs.Plain.{list_all-weaker}
use Rattle.dali_gen_lines.specs.Plain.{is_plain_byte, is_plain}

abbrev is_newline : ℕ → Bool
is_newline b = eqb b 10

-- the parts of a plain line
pub bytes_of : (line : List ℕ) → is_plain line ≡ true → list_all is_plain_byte line ≡ true
bytes_of line told = (and_parts (nat_le 1 (length line) && nat_le (length line) 200) (list_all is_plain_byte line) told).1

pub some_of : (line : List ℕ) → is_plain line ≡ true → 0 < length line
some_of line told =
    let front = (and_parts (nat_le 1 (length line) && nat_le (length line) 200) (list_all is_plain_byte line) told).0 in
    let test = (and_parts (nat_le 1 (length line)) (nat_le (length line) 200) front).0 in
    grind (arith, nat_tests, test)

short_of : (line : List ℕ) → is_plain line ≡ true → nat_le (length line) 200 ≡ true
short_of line told =
    let front = (and_parts (nat_le 1 (length line) && nat_le (length line) 200) (list_all is_plain_byte line) told).0 in
    (and_parts (nat_le 1 (length line)) (nat_le (length line) 200) front).1

-- each byte of it
pub plain_at : (xs : List ℕ) → list_all is_plain_byte xs ≡ true → (i : ℕ) → i < length xs → is_plain_byte (get_or xs i 0) ≡ true
plain_at [] told i within = absurd (omega (arith, within))
plain_at (x ∷ xs) told zero within = (and_parts (is_plain_byte x) (list_all is_plain_byte xs) told).0
plain_at (x ∷ xs) told (suc i) within = plain_at xs (and_parts (is_plain_byte x) (list_all is_plain_byte xs) told).1 i (omega (arith, within))

no_newline : (b : ℕ) → is_plain_byte b ≡ true → eqb b 10 ≡ false
no_newline b told = grind (arith, nat_tests, told)

not_newline : (b : ℕ) → is_plain_byte b ≡ true → not (eqb b 10) ≡ true
not_newline b told = grind (arith, nat_tests, told)

no_return : (b : ℕ) → is_plain_byte b ≡ true → eqb b 13 ≡ false
no_return b told = grind (arith, nat_tests, told)

no_comment : (b : ℕ) → is_plain_byte b ≡ true → not (eqb b 35) ≡ true
no_comment b told = grind (arith, nat_tests, told)

-- it has no LF
pub newline_at : (line : List ℕ) → is_plain line ≡ true → (i : ℕ) → i < length line → eqb (get_or line i 0) 10 ≡ false
newline_at line told i within = no_newline (get_or line i 0) (plain_at line (bytes_of line told) i within)

pub in_one_line : (line : List ℕ) → is_plain line ≡ true → All (λ b. is_newline b ≡ false) line
in_one_line line told = All-from_get_or (λ b. is_newline b ≡ false) line 0 (newline_at line told)

-- it is a command
pub plain_command : (line : List ℕ) → is_plain line ≡ true → is_command line ≡ true
plain_command [] told = cc
plain_command (b ∷ line) told = no_comment b (and_parts (is_plain_byte b) (list_all is_plain_byte line) (bytes_of (b ∷ line) told)).0

-- and a line as a history keeps it
pub plain_is_line : (line : List ℕ) → is_plain line ≡ true → IsTrue (is_line line)
plain_is_line line told =
    both (is_command line && nat_le (length line) 200) (list_all (λ b. not (eqb b 10)) line)
    (both (is_command line) (nat_le (length line) 200) (plain_command line told) (short_of line told))
    (list_all-weaker is_plain_byte (λ b. not (eqb b 10)) not_newline line (bytes_of line told))

-- it has no CR at its end
pub plain_bare : (line : List ℕ) → is_plain line ≡ true → strip_carriage_return line ≡ line
plain_bare line told =
    let some : 0 < length line = some_of line told in
    let last : length line - 1 < length line = omega (arith, some) in
    ap (λ t. cond t (take (length line - 1) line) line) (no_return (get_or line (length line - 1) 0) (plain_at line (bytes_of line told) (length line - 1) last))

-- an LF behind it ends a command
pub commands_plain : (line rest : List ℕ) → is_plain line ≡ true → commands ((line ++ 10 ∷ []) ++ rest) ≡ line ∷ commands rest
commands_plain line rest told =
    ap commands (append_assoc line (10 ∷ []) rest)
    ∙ ap (λ parts. filter is_command (lines_of_parts parts)) (slice_split_at is_newline line 10 rest (in_one_line line told) refl)
    ∙ ap (filter is_command) (line_ended line (slice_split is_newline rest) (is_cut is_newline rest))
    ∙ ap (λ l. filter is_command (l ∷ lines_of_parts (slice_split is_newline rest))) (plain_bare line told)
    ∙ ap (λ t. cond t (line ∷ commands rest) (commands rest)) (plain_command line told)
