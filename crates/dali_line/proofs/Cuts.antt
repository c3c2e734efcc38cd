use Rattle.std.proofs.Common.{◌≡◌, ◌∙◌, ℕ, ◌+◌, ◌<◌, ◌≤◌, Bool, false, cond, ltb, eqb, suc, Some, None, List, [], ◌∷◌, length, take, drop, refl, ap, arith}
use Rattle.std.proofs.lemmas.Bool.{ltb-true}
use Rattle.std.proofs.lemmas.Bool.Decides.{nat_tests}
use Rattle.std.proofs.lemmas.List.Elements.{All-from_get_or}
use Rattle.std.proofs.lemmas.List.Sums.{fails_before_first}
use Rattle.std.proofs.lemmas.List.Splits.{slice_split_first, slice_split_none, length-slice_split}
use Rattle.std.specs.List.{slice_split, position, position_or_len}
use Rattle.std.specs.Str.Lines.{lines_of_parts, strip_carriage_return}
use Rattle.dali_base.proofs.Spelled.{chosen}

-- cut at the first element that passes
pub split_some : (p : ℕ → Bool) (xs : List ℕ) (i : ℕ) → position p xs ≡ Some i → slice_split p xs ≡ take i xs ∷ slice_split p (drop (i + 1) xs)
split_some p xs i found =
    let parts = chosen (ltb (position_or_len p xs) (length xs)) (position_or_len p xs) i found in
    let within : position_or_len p xs < length xs = ltb-true _ _ parts.0 in
    slice_split_first p xs 0 within ∙ ap (λ k. take k xs ∷ slice_split p (drop (k + 1) xs)) parts.1

pub beyond : (k n : ℕ) → cond (ltb k n) (Some k) None ≡ None → n ≤ k
beyond k n missing = grind (arith, nat_tests, missing)

-- there is no cut where none passes
pub split_none : (p : ℕ → Bool) (xs : List ℕ) → position p xs ≡ None → slice_split p xs ≡ xs ∷ []
split_none p xs missing =
    let past : length xs ≤ position_or_len p xs = beyond (position_or_len p xs) (length xs) missing in
    slice_split_none p xs (All-from_get_or (λ x. p x ≡ false) xs 0 (λ i within. fails_before_first p xs i 0 (omega (arith, past, within))))

pub is_cut : (p : ℕ → Bool) (xs : List ℕ) → 0 < length (slice_split p xs)
is_cut p xs = omega (arith, length-slice_split p xs)

-- a piece that an LF ends is a line, without the CR at its end
pub line_ended : (piece : List ℕ) (parts : List (List ℕ)) → 0 < length parts →
    lines_of_parts (piece ∷ parts) ≡ strip_carriage_return piece ∷ lines_of_parts parts
line_ended piece [] some = absurd (omega (arith, some))
line_ended piece (next ∷ more) some = refl

suc_is_not_zero : (n : ℕ) → eqb (suc n) 0 ≡ false
suc_is_not_zero n = grind (arith, nat_tests)

-- a last piece without an LF is a line where it isn't empty
pub last_line : (piece : List ℕ) → 0 < length piece → lines_of_parts (piece ∷ []) ≡ piece ∷ []
last_line [] some = absurd (omega (arith, some))
last_line (b ∷ piece) some = ap (λ (t : Bool). cond t [] ((b ∷ piece) ∷ [])) (suc_is_not_zero (length piece))
