use Rattle.std.proofs.Common.{◌≡◌, ◌∙◌, ℕ, ◌+◌, ◌<◌, ◌≤◌, Bool, true, false, not, cond, ltb, eqb, suc, Some, None, List, [], ◌∷◌, ◌++◌, length, get_or, take, drop, refl, sym, ap, subst, arith, add-one}
use Rattle.std.proofs.lemmas.Bool.{ltb-true}
use Rattle.std.proofs.lemmas.Bool.Decides.{nat_tests}
use Rattle.std.proofs.Math.Seq.{drop-cons}
use Rattle.std.proofs.lemmas.List.Elements.{All-from_get_or}
use Rattle.std.proofs.lemmas.List.Sums.{fails_before_first}
use Rattle.std.proofs.lemmas.List.Splits.{slice_split_first, slice_split_none, length-slice_split}
use Rattle.std.specs.List.{slice_split, position, position_or_len}
use Rattle.std.proofs.lemmas.List.{get_or-take, length-take}
use Rattle.std.proofs.lemmas.List.Sums.{split_at_first, passes_at_first}
use Rattle.dali_base.proofs.Spelled.{chosen, both}
use Rattle.dali_cert_text.specs.Form.{is_line}
use Rattle.dali_cert_text.specs.Fields.{pieces, fields_in, alone}

-- cut at the first element that passes
pub split_some : (p : ℕ → Bool) (xs : List ℕ) (i : ℕ) → position p xs ≡ Some i →
    (i < length xs) × (slice_split p xs ≡ take i xs ∷ slice_split p (drop (i + 1) xs))
split_some p xs i found =
    let parts = chosen (ltb (position_or_len p xs) (length xs)) (position_or_len p xs) i found in
    let within : position_or_len p xs < length xs = ltb-true _ _ parts.0 in
    (subst (λ k. k < length xs) parts.1 within, slice_split_first p xs 0 within ∙ ap (λ k. take k xs ∷ slice_split p (drop (k + 1) xs)) parts.1)

beyond : (k n : ℕ) → cond (ltb k n) (Some k) None ≡ None → n ≤ k
beyond k n missing = grind (arith, nat_tests, missing)

-- there is no cut where none passes
pub split_none : (p : ℕ → Bool) (xs : List ℕ) → position p xs ≡ None → slice_split p xs ≡ xs ∷ []
split_none p xs missing =
    let past : length xs ≤ position_or_len p xs = beyond (position_or_len p xs) (length xs) missing in
    slice_split_none p xs (All-from_get_or (λ x. p x ≡ false) xs 0 (λ i within. fails_before_first p xs i 0 (omega (arith, past, within))))

-- the fields behind the first comma are those from it on
pub cut_some : (xs : List ℕ) (i : ℕ) → position (λ b. eqb b 44) xs ≡ Some i → pieces xs ≡ take i xs ∷ fields_in (drop i xs)
cut_some xs i found =
    let parts = split_some (λ b. eqb b 44) xs i found in
    parts.1 ∙ ap (λ ys. take i xs ∷ fields_in ys) (sym (drop-cons xs i 0 parts.0 ∙ ap (λ k. get_or xs i 0 ∷ drop k xs) (sym (add-one i))))

-- there is a first piece
pub is_cut : (xs : List ℕ) → 0 < length (pieces xs)
is_cut xs = omega (arith, length-slice_split (λ b. eqb b 44) xs)

not_alone : {A : Type 0} (fields : List (List ℕ)) (x : A) → 0 < length fields → alone fields x ≡ None
not_alone [] x some = absurd (omega (arith, some))
not_alone (f ∷ fs) x some = refl

pub not_empty : {A : Type 0} (rest : List ℕ) (x : A) → false ≡ eqb (length rest) 0 → None ≡ alone (fields_in rest) x
not_empty [] x told = absurd cc
not_empty (b ∷ bytes) x told = sym (not_alone (pieces bytes) x (is_cut bytes))

-- ---- lines

other_byte : (b : ℕ) → eqb b 10 ≡ false → not (eqb b 10) ≡ true
other_byte b told = ap not told

line_by : (xs : List ℕ) → ((k : ℕ) → k < length xs → eqb (get_or xs k 0) 10 ≡ false) → is_line xs ≡ true
line_by [] each = refl
line_by (x ∷ xs) each = both (not (eqb x 10)) (is_line xs) (other_byte x (each 0 (omega arith))) (line_by xs (λ k below. each (suc k) (omega (arith, below))))

is_end : (b : ℕ) → eqb b 10 ≡ true → b ≡ 10
is_end b told = grind (arith, nat_tests, told)

-- where the first LF stands a line ends
pub line_ended : (xs : List ℕ) (i : ℕ) → position (λ b. eqb b 10) xs ≡ Some i → (is_line (take i xs) ≡ true) × (xs ≡ take i xs ++ 10 ∷ drop (i + 1) xs)
line_ended xs i found =
    let c = chosen (ltb (position_or_len (λ b. eqb b 10) xs) (length xs)) (position_or_len (λ b. eqb b 10) xs) i found in
    let within : position_or_len (λ b. eqb b 10) xs < length xs = ltb-true _ _ c.0 in
    let at : get_or xs (position_or_len (λ b. eqb b 10) xs) 0 ≡ 10 = is_end _ (passes_at_first (λ b. eqb b 10) xs 0 within) in
    let cut : xs ≡ take (position_or_len (λ b. eqb b 10) xs) xs ++ 10 ∷ drop (position_or_len (λ b. eqb b 10) xs + 1) xs =
    split_at_first (λ b. eqb b 10) xs 0 within ∙ ap (λ (k : ℕ). take (position_or_len (λ b. eqb b 10) xs) xs ++ k ∷ drop (position_or_len (λ b. eqb b 10) xs + 1) xs) at in (
      line_by (take i xs) (λ k below.
          let short : k < i = omega (arith, below, length-take i xs) in
          let before : k < position_or_len (λ b. eqb b 10) xs = omega (arith, short, c.1) in
          ap (λ (b : ℕ). eqb b 10) (get_or-take i xs k 0 short) ∙ fails_before_first (λ b. eqb b 10) xs k 0 before),
      subst (λ (j : ℕ). xs ≡ take j xs ++ 10 ∷ drop (j + 1) xs) c.1 cut,
    )

-- where there is none all is one line
pub no_line_end : (xs : List ℕ) → position (λ b. eqb b 10) xs ≡ None → is_line xs ≡ true
no_line_end xs missing =
    let past : length xs ≤ position_or_len (λ b. eqb b 10) xs = beyond (position_or_len (λ b. eqb b 10) xs) (length xs) missing in
    line_by xs (λ k below. fails_before_first (λ b. eqb b 10) xs k 0 (omega (arith, past, below)))
