use Rattle.std.proofs.Common.{◌≡◌, ◌∙◌, ℕ, ◌+◌, ◌/◌, ◌%◌, ◌^◌, ◌<◌, ◌≤◌, ◌⊎◌, true, inl, inr, List, [], ◌∷◌, ◌++◌, length, refl, sym, ap, subst, arith, append_assoc, append-nil}
use Rattle.std.proofs.lemmas.Bool.Decides.{nat_tests}
use Rattle.std.proofs.lemmas.Fmt.{digits_decimal, decimal_nonempty, decimal_injective, decimal_digit, decimal_step, decimal_by_steps}
use Rattle.std.proofs.lemmas.List.{same_from_push}
use Rattle.std.specs.Prelude.{decimal}
use Rattle.std.specs.Str.{all_ascii_digits}
use Rattle.dali_base.proofs.Spelled.{and_parts, own}

-- Numbers in decimal, each with an LF behind it.

abbrev pub AreDigits : List ℕ → Type 0
AreDigits bytes = all_ascii_digits bytes ≡ true

pub digits_of : (n : ℕ) → n < 2 ^ 64 → AreDigits (decimal n)
digits_of n small = digits_decimal own n small

-- an LF is no digit
no_digit : (b : ℕ) (bytes : List ℕ) → AreDigits (b ∷ bytes) → b ≡ 10 → ⊥
no_digit b bytes told e = let first = (and_parts _ (all_ascii_digits bytes) told).0 in absurd (grind (arith, nat_tests, first, e))

more_digits : (b : ℕ) (bytes : List ℕ) → AreDigits (b ∷ bytes) → AreDigits bytes
more_digits b bytes told = (and_parts _ (all_ascii_digits bytes) told).1

-- Digits at the front of a number's line: they are the number, or a further digit of it stands behind them.
pub line_at : (front d tail behind : List ℕ) → AreDigits front → front ++ tail ≡ d ++ 10 ∷ behind →
    ((front ≡ d) × (tail ≡ 10 ∷ behind)) ⊎ ((b : ℕ) × (more : List ℕ) × (after : List ℕ) × (tail ≡ b ∷ after) × (d ≡ front ++ b ∷ more))
line_at [] [] tail behind digits e = inl (refl, e)
line_at [] (y ∷ d) tail behind digits e = inr (y, d, d ++ 10 ∷ behind, e, refl)
line_at (x ∷ front) [] tail behind digits e = let ten : x ≡ 10 = cc in absurd (no_digit x front digits ten)
line_at (x ∷ front) (y ∷ d) tail behind digits e =
    let head : x ≡ y = cc in
    let rest : front ++ tail ≡ d ++ 10 ∷ behind = cc in
    elim (line_at front d tail behind (more_digits x front digits) rest) [
      | inl h ↦ inl ((let same : front ≡ d = h.0 in cc), h.1)
      | inr h ↦ inr (h.0, h.1, h.2, h.3, (let same : d ≡ front ++ h.0 ∷ h.1 = h.4 in cc))
    ]

-- two numbers' lines at the front of one text are one
pub line_same : (m n : ℕ) (c d : List ℕ) → m < 2 ^ 64 → n < 2 ^ 64 → decimal m ++ 10 ∷ c ≡ decimal n ++ 10 ∷ d → (m ≡ n) × (c ≡ d)
line_same m n c d small few e = elim (line_at (decimal m) (decimal n) (10 ∷ c) d (digits_of m small) e) [
  | inl h ↦ (decimal_injective m n small few h.0, (let tail : 10 ∷ c ≡ 10 ∷ d = h.1 in cc))
  | inr h ↦ absurd (ten_within (decimal m) (decimal n) h.0 h.1 (digits_of n few) h.4 (let tail : 10 ∷ c ≡ h.0 ∷ h.2 = h.3 in cc))
] where
  ten_within : (front d : List ℕ) (b : ℕ) (more : List ℕ) → AreDigits d → d ≡ front ++ b ∷ more → b ≡ 10 → ⊥
  ten_within front d b more digits e ten = within front (subst AreDigits e digits) where
    within : (xs : List ℕ) → AreDigits (xs ++ b ∷ more) → ⊥
    within [] told = no_digit b more told ten
    within (x ∷ xs) told = within xs (more_digits x (xs ++ b ∷ more) told)

pub some_digits : (n : ℕ) → n < 2 ^ 64 → decimal n ≡ [] → ⊥
some_digits n small none = let some : 0 < length (decimal n) = decimal_nonempty n small in absurd (omega (arith, some, ap length none))

-- the last of some bytes
last_of : (x : ℕ) (xs : List ℕ) → (front : List ℕ) × (last : ℕ) × (x ∷ xs ≡ front ++ last ∷ [])
last_of x [] = ([], x, refl)
last_of x (y ∷ ys) = let more = last_of y ys in (x ∷ more.0, more.1, ap (λ (t : List ℕ). x ∷ t) more.2)

-- a number that a front of another's digits spells
pub record Fronts (n : ℕ) (front : List ℕ) : Type 0 where
  pub number : ℕ
  pub most : number ≤ n
  pub some : 1 ≤ n → 1 ≤ number
  pub spelled : front ≡ decimal number

record Steps (n : ℕ) (digits : List ℕ) : Type 0 where
  whole : n < 2 ^ 64 → digits ≡ decimal n
  fronts : (front more : List ℕ) → n < 2 ^ 64 → digits ≡ front ++ more → 0 < length front → Fronts n front

steps : (n : ℕ) → n < 2 ^ 64 → Steps n (decimal n)
steps = decimal_by_steps Steps one more where
  whole_front : (n : ℕ) (front : List ℕ) → front ≡ decimal n → Fronts n front
  whole_front n front e = record { number = n; most = omega arith; some = λ some. some; spelled = e }

  one : (n : ℕ) → n < 10 → Steps n ((48 + n) ∷ [])
  one n few = record { whole = λ small. sym (decimal_digit n few); fronts = fronts } where
    fronts : (front more : List ℕ) → n < 2 ^ 64 → (48 + n) ∷ [] ≡ front ++ more → 0 < length front → Fronts n front
    fronts [] more small e some = absurd (omega (arith, some))
    fronts (x ∷ []) more small e some = whole_front n (x ∷ []) (let head : 48 + n ≡ x = cc in ap (λ (b : ℕ). b ∷ []) (sym head) ∙ sym (decimal_digit n few))
    fronts (x ∷ (y ∷ front)) more small e some = absurd cc

  more : (n : ℕ) (digits : List ℕ) → 10 ≤ n → Steps (n / 10) digits → Steps n (digits ++ (48 + n % 10) ∷ [])
  more n digits many before = record { whole = whole; fronts = fronts } where
    whole : n < 2 ^ 64 → digits ++ (48 + n % 10) ∷ [] ≡ decimal n
    whole small = ap (λ (t : List ℕ). t ++ (48 + n % 10) ∷ []) (before.whole (omega (arith, small))) ∙ sym (decimal_step n many small)

    fronts : (front more : List ℕ) → n < 2 ^ 64 → digits ++ (48 + n % 10) ∷ [] ≡ front ++ more → 0 < length front → Fronts n front
    fronts front [] small e some = whole_front n front (sym (append-nil front) ∙ sym e ∙ whole small)
    fronts front (x ∷ xs) small e some =
        let last = last_of x xs in
        let parted : digits ++ (48 + n % 10) ∷ [] ≡ (front ++ last.0) ++ last.1 ∷ [] =
        e ∙ ap (λ (t : List ℕ). front ++ t) last.2 ∙ sym (append_assoc front last.0 (last.1 ∷ [])) in
        let shorter = before.fronts front last.0 (omega (arith, small)) (same_from_push digits (front ++ last.0) _ _ parted).0 some in
        record { number = shorter.number; most = omega (arith, shorter.most); some = λ some. shorter.some (omega (arith, many)); spelled = shorter.spelled }

pub front_number : (n : ℕ) (front more : List ℕ) → n < 2 ^ 64 → decimal n ≡ front ++ more → 0 < length front → Fronts n front
front_number n front more small e some = (steps n small).fronts front more small e some
