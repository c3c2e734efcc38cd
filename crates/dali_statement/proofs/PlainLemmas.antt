use Rattle.std.proofs.Common.{◌≡◌, ℕ, suc, ◌^◌, ◌<◌, ◌≤◌, ◌&&◌, ◌||◌, Bool, true, false, List, [], ◌∷◌, length, ℤ, pos, negsuc, refl, ap, ◌∙◌, arith}
use Rattle.std.specs.Prelude.{decimal, nat_le, FitsSigned, IsTrue}
use Rattle.std.specs.Fmt.{signed_decimal}
use Rattle.std.specs.Str.{all_ascii_digits}
use Rattle.std.specs.Char.{is_ascii_digit}
use Rattle.std.specs.List.{list_all}
use Rattle.std.proofs.lemmas.Bool.Decides.{nat_tests}
use Rattle.std.specs.Int.{w64}
use Rattle.std.proofs.lemmas.Int.{ints}
use Rattle.std.proofs.lemmas.Fmt.{digits_decimal}
use Rattle.csv.specs.Writing.{default_writer, needs_byte, needs_quotes}
use Rattle.dali_base.specs.Spelling.{is_name, is_name_byte}
use Rattle.dali_base.proofs.Spelled.{and_parts, own}

plain_byte : (b : ℕ) → 45 ≤ b → needs_byte default_writer b ≡ false
plain_byte b high = grind (arith, nat_tests)

module _ (test : ℕ → Bool) (high : (b : ℕ) → test b ≡ true → 45 ≤ b) where
  plain_by : (field : List ℕ) → list_all test field ≡ true → needs_quotes default_writer field ≡ false
  plain_by [] told = refl
  plain_by (b ∷ bs) told =
      let parts = and_parts (test b) (list_all test bs) told in
      ap (λ t. t || needs_quotes default_writer bs) (plain_byte b (high b parts.0)) ∙ plain_by bs parts.1

-- a name
pub plain_name : (name : List ℕ) → IsTrue (is_name name) → needs_quotes default_writer name ≡ false
plain_name name told = plain_by is_name_byte (λ b t. grind (arith, nat_tests, t)) name
    (and_parts (nat_le 1 (length name) && nat_le (length name) 12) (list_all is_name_byte name) told).1

plain_digits : (ds : List ℕ) → all_ascii_digits ds ≡ true → needs_quotes default_writer ds ≡ false
plain_digits [] told = refl
plain_digits (d ∷ ds) told =
    let parts = and_parts (is_ascii_digit d) (all_ascii_digits ds) told in
    ap (λ t. t || needs_quotes default_writer ds) (plain_byte d (grind (arith, nat_tests, parts.0))) ∙ plain_digits ds parts.1

-- a number
pub plain_decimal : (n : ℕ) → n < 2 ^ 64 → needs_quotes default_writer (decimal n) ≡ false
plain_decimal n small = plain_digits (decimal n) (digits_decimal own n small)

pub plain_signed : (z : ℤ) → FitsSigned w64 z → needs_quotes default_writer (signed_decimal z) ≡ false
plain_signed (pos n) small = plain_decimal n (omega (arith, ints, small.sfits))
plain_signed (negsuc n) small = plain_decimal (suc n) (omega (arith, ints, small.sfits))
