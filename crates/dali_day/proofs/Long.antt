use Rattle.std.proofs.Common.{◌≡◌, ◌∙◌, ℕ, zero, suc, ◌+◌, ◌-◌, ◌≤◌, ◌<◌, Bool, true, false, List, [], ◌∷◌, ◌++◌, length, drop, refl, sym, ap, subst, arith, append_assoc, append-nil}
use Rattle.std.specs.Prelude.{IsTrue, cond, filter, ◌==◌}
use Rattle.std.specs.List.{All, AllByRecursion, slice_split, onto_first}
use Rattle.std.specs.Str.Lines.{lines, lines_of_parts, strip_carriage_return}
use Rattle.std.proofs.lemmas.List.Elements.{recursion_from_All}
use Rattle.dali_line.proofs.Cuts.{is_cut}
use Rattle.dali_line.specs.Commands.{commands, ended_commands, ended_of_parts, is_command}
use Rattle.dali_line.specs.Line.{MOST_OF_COMMAND}
use Rattle.dali_line.specs.Lines.{FirstIsLong, IsLong}
use Rattle.dali_day.specs.Taken.{IsLongAt, ShowsLong, ShowsNoLong}

-- one more piece in both lists that are filtered
more_on_both : (p : List ℕ → Bool) (x : List ℕ) (xs ys : List (List ℕ)) → length (filter p xs) ≤ length (filter p ys) + 1 →
    length (filter p (x ∷ xs)) ≤ length (filter p (x ∷ ys)) + 1
more_on_both p x xs ys h = elim (p x) as (λ t. length (cond t (x ∷ filter p xs) (filter p xs)) ≤ length (cond t (x ∷ filter p ys) (filter p ys)) + 1) [
  | true ↦ omega (arith, h)
  | false ↦ h
]

at_most_one : (p : List ℕ → Bool) (x : List ℕ) → length (filter p (x ∷ [])) ≤ 1
at_most_one p x = elim (p x) as (λ t. length (cond t (x ∷ []) []) ≤ 1) [ true ↦ omega arith | false ↦ omega arith ]

a_line_or_none : (x : List ℕ) → length (filter is_command (lines_of_parts (x ∷ []))) ≤ 1
a_line_or_none x = elim (length x == 0) as (λ t. length (filter is_command (cond t [] (x ∷ []))) ≤ 1) [
  | true ↦ omega arith
  | false ↦ at_most_one is_command x
]

-- all lines but the last are ended
one_more : (parts : List (List ℕ)) → length (filter is_command (lines_of_parts parts)) ≤ length (filter is_command (ended_of_parts parts)) + 1
one_more [] = omega arith
one_more (x ∷ []) = a_line_or_none x
one_more (x ∷ y ∷ more) = more_on_both is_command (strip_carriage_return x) (lines_of_parts (y ∷ more)) (ended_of_parts (y ∷ more)) (one_more (y ∷ more))

pub one_command_more : (bytes : List ℕ) → length (commands bytes) ≤ length (ended_commands bytes) + 1
one_command_more bytes = one_more (slice_split (λ b. b == 10) bytes)

-- the parts where one byte follows: it ends the last part, or is its last byte
abbrev with_byte : Bool → ℕ → List (List ℕ) → List (List ℕ)
with_byte true b parts = parts ++ [] ∷ []
with_byte false b [] = []
with_byte false b (x ∷ []) = (x ++ b ∷ []) ∷ []
with_byte false b (x ∷ y ∷ more) = x ∷ with_byte false b (y ∷ more)

with_byte_first : (t : Bool) (b : ℕ) (x y : List ℕ) (more : List (List ℕ)) → with_byte t b (x ∷ y ∷ more) ≡ x ∷ with_byte t b (y ∷ more)
with_byte_first true b x y more = refl
with_byte_first false b x y more = refl

-- parts of something: there is one at least
with_byte_new : (t : Bool) (b : ℕ) (parts : List (List ℕ)) → 0 < length parts → with_byte t b ([] ∷ parts) ≡ [] ∷ with_byte t b parts
with_byte_new t b [] some = absurd (omega arith)
with_byte_new t b (y ∷ more) some = with_byte_first t b [] y more

with_byte_onto : (t : Bool) (b x : ℕ) (parts : List (List ℕ)) → 0 < length parts → with_byte t b (onto_first x parts) ≡ onto_first x (with_byte t b parts)
with_byte_onto t b x [] some = absurd (omega arith)
with_byte_onto true b x (y ∷ []) some = refl
with_byte_onto false b x (y ∷ []) some = refl
with_byte_onto true b x (y ∷ z ∷ more) some = refl
with_byte_onto false b x (y ∷ z ∷ more) some = refl

some_part : (bytes : List ℕ) → 0 < length (slice_split (λ b. b == 10) bytes)
some_part bytes = is_cut (λ b. b == 10) bytes

split_byte : (bytes : List ℕ) (b : ℕ) → slice_split (λ c. c == 10) (bytes ++ b ∷ []) ≡ with_byte (b == 10) b (slice_split (λ c. c == 10) bytes)
split_byte [] b = elim (b == 10) as (λ t. cond t ([] ∷ [] ∷ []) ((b ∷ []) ∷ []) ≡ with_byte t b ([] ∷ [])) [ true ↦ refl | false ↦ refl ]
split_byte (x ∷ bytes) b = elim (x == 10) as (λ t. cond t ([] ∷ slice_split (λ c. c == 10) (bytes ++ b ∷ [])) (onto_first x (slice_split (λ c. c == 10) (bytes ++ b ∷ [])))
    ≡ with_byte (b == 10) b (cond t ([] ∷ slice_split (λ c. c == 10) bytes) (onto_first x (slice_split (λ c. c == 10) bytes)))) [
      | true ↦ ap (λ parts. [] ∷ parts) (split_byte bytes b) ∙ sym (with_byte_new (b == 10) b (slice_split (λ c. c == 10) bytes) (some_part bytes))
      | false ↦ ap (onto_first x) (split_byte bytes b) ∙ sym (with_byte_onto (b == 10) b x (slice_split (λ c. c == 10) bytes) (some_part bytes))
    ]

one_after_byte : (t : Bool) (b : ℕ) (parts : List (List ℕ)) →
    length (filter is_command (lines_of_parts (with_byte t b parts))) ≤ length (filter is_command (ended_of_parts parts)) + 1
one_after_byte true b [] = omega arith
one_after_byte true b (x ∷ []) = at_most_one is_command (strip_carriage_return x)
one_after_byte true b (x ∷ y ∷ more) = more_on_both is_command (strip_carriage_return x) (lines_of_parts (with_byte true b (y ∷ more))) (ended_of_parts (y ∷ more)) (one_after_byte true b (y ∷ more))
one_after_byte false b [] = omega arith
one_after_byte false b (x ∷ []) = a_line_or_none (x ++ b ∷ [])
one_after_byte false b (x ∷ y ∷ []) = more_on_both is_command (strip_carriage_return x) (lines_of_parts (with_byte false b (y ∷ []))) (ended_of_parts (y ∷ [])) (one_after_byte false b (y ∷ []))
one_after_byte false b (x ∷ y ∷ z ∷ more) = more_on_both is_command (strip_carriage_return x) (lines_of_parts (with_byte false b (y ∷ z ∷ more))) (ended_of_parts (y ∷ z ∷ more)) (one_after_byte false b (y ∷ z ∷ more))

-- one byte more gives at most one command more than were ended
pub one_command_after : (bytes : List ℕ) (b : ℕ) → length (commands (bytes ++ b ∷ [])) ≤ length (ended_commands bytes) + 1
one_command_after bytes b =
    subst (λ parts. length (filter is_command (lines_of_parts parts)) ≤ length (ended_commands bytes) + 1) (sym (split_byte bytes b))
    (one_after_byte (b == 10) b (slice_split (λ c. c == 10) bytes))

-- a command past the first of at most one isn't there
pub none_past_one : (xs : List (List ℕ)) (j : ℕ) → length xs ≤ 1 → FirstIsLong (drop (suc j) xs) → ⊥
none_past_one [] j few long = long
none_past_one (x ∷ []) j few long = none_there j long where
  none_there : (i : ℕ) → FirstIsLong (drop i []) → ⊥
  none_there zero h = h
  none_there (suc i) h = h
none_past_one (x ∷ y ∷ xs) j few long = absurd (omega arith)

-- where the first commands are short, a long one comes behind them
pub record IsBehind (i : ℕ) (given next : List (List ℕ)) : Type 0 where
  pub at : ℕ
  pub place : i ≡ length given + at
  pub long : FirstIsLong (drop at next)

pub behind : (given next : List (List ℕ)) (i : ℕ) → AllByRecursion (λ line. length line ≤ MOST_OF_COMMAND) given → FirstIsLong (drop i (given ++ next)) → IsBehind i given next
behind [] next i short long = record { at = i; place = omega arith; long = long }
behind (line ∷ given) next zero short long = absurd (omega (arith, short.0, long))
behind (line ∷ given) next (suc i) short long =
    let rest = behind given next i short.1 long in
    record { at = rest.at; place = omega (arith, rest.place); long = rest.long }

-- the first of these is command number length given + 1
pub at_next : (given next : List (List ℕ)) → FirstIsLong next → FirstIsLong (drop (length given) (given ++ next))
at_next [] next long = long
at_next (line ∷ given) next long = at_next given next long
