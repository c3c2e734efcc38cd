use Rattle.std.proofs.Common.{◌≡◌, ◌∙◌, ℕ, ◌+◌, ◌-◌, ◌<◌, ◌≤◌, Bool, true, false, cond, ltb, eqb, zero, suc, not, lt_of_not-le, Some, None, List, [], ◌∷◌, ◌++◌, length, take, drop, get_or, refl, sym, ap, subst, arith, append_assoc, append-nil}
use Rattle.std.proofs.lemmas.Bool.Decides.{nat_tests}
use Rattle.std.proofs.lemmas.Bool.{ltb-true}
use Rattle.std.proofs.lemmas.List.{length-append, length-take-le, get_or-take, take-append-drop, drop_more}
use Rattle.std.proofs.lemmas.List.Elements.{All-append, All-cons, All-nil, All-take, All-from_get_or}
use Rattle.std.proofs.lemmas.List.Splits.{slice_split_at, slice_split_none}
use Rattle.std.proofs.lemmas.List.Sums.{fails_before_first, passes_at_first, list_all-from_AllPass}
use Rattle.std.specs.List.{slice_split, position, position_or_len, All, list_all}
use Rattle.std.specs.Prelude.{filter, nat_le, ◌&&◌}
use Rattle.std.specs.Str.Lines.{lines_of_parts, strip_carriage_return}
use Rattle.dali_line.specs.Commands.{is_command, commands, ended_of_parts, ended_commands}
use Rattle.dali_line.specs.Lines.{FirstIsLong}
use Rattle.dali_line.specs.Open.{InOneLine, is_comment, IsTooLong, SameCut, StandsFor, nothing_open}
use Rattle.dali_line.specs.Line.{is_line}
use Rattle.dali_base.proofs.Spelled.{chosen, both}
use Rattle.dali_line.proofs.Cuts.{line_ended, last_line, is_cut, beyond}

abbrev is_newline : ℕ → Bool
is_newline b = eqb b 10

abbrev if_command : List ℕ → List (List ℕ) → List (List ℕ)
if_command line rest = cond (is_command line) (line ∷ rest) rest

-- an LF behind bytes in one line ends a piece
commands_ended : (raw rest : List ℕ) → InOneLine raw → commands (raw ++ 10 ∷ rest) ≡ if_command (strip_carriage_return raw) (commands rest)
commands_ended raw rest one =
    ap (λ parts. filter is_command (lines_of_parts parts)) (slice_split_at is_newline raw 10 rest one refl)
    ∙ ap (filter is_command) (line_ended raw (slice_split is_newline rest) (is_cut is_newline rest))

ended_first : (piece : List ℕ) (parts : List (List ℕ)) → 0 < length parts → ended_of_parts (piece ∷ parts) ≡ strip_carriage_return piece ∷ ended_of_parts parts
ended_first piece [] some = absurd (omega (arith, some))
ended_first piece (next ∷ more) some = refl

ended_ended : (raw rest : List ℕ) → InOneLine raw → ended_commands (raw ++ 10 ∷ rest) ≡ if_command (strip_carriage_return raw) (ended_commands rest)
ended_ended raw rest one =
    ap (λ parts. filter is_command (ended_of_parts parts)) (slice_split_at is_newline raw 10 rest one refl)
    ∙ ap (filter is_command) (ended_first raw (slice_split is_newline rest) (is_cut is_newline rest))

-- bytes in one line are a command, or nothing, where the end of input follows
pub commands_last : (raw : List ℕ) → InOneLine raw → is_command raw ≡ true → commands raw ≡ raw ∷ []
commands_last [] one begins = cc
commands_last (b ∷ raw) one begins =
    ap (λ parts. filter is_command (lines_of_parts parts)) (slice_split_none is_newline (b ∷ raw) one)
    ∙ ap (filter is_command) (last_line (b ∷ raw) (omega arith))
    ∙ ap (λ t. cond t ((b ∷ raw) ∷ []) []) begins

pub commands_none : (raw : List ℕ) → InOneLine raw → is_command raw ≡ false → commands raw ≡ []
commands_none [] one begins = refl
commands_none (b ∷ raw) one begins =
    ap (λ parts. filter is_command (lines_of_parts parts)) (slice_split_none is_newline (b ∷ raw) one)
    ∙ ap (filter is_command) (last_line (b ∷ raw) (omega arith))
    ∙ ap (λ t. cond t ((b ∷ raw) ∷ []) []) begins

-- no LF ended anything in them
ended_none : (raw : List ℕ) → InOneLine raw → ended_commands raw ≡ []
ended_none raw one = ap (λ parts. filter is_command (ended_of_parts parts)) (slice_split_none is_newline raw one)

same_start : (f : List ℕ → List (List ℕ)) (used raw part rest : List ℕ) →
    ((rest : List ℕ) → f (used ++ rest) ≡ f (raw ++ rest)) → f ((used ++ part) ++ rest) ≡ f ((raw ++ part) ++ rest)
same_start f used raw part rest same =
    ap f (append_assoc used part rest) ∙ same (part ++ rest) ∙ ap f (sym (append_assoc raw part rest))

pub cut_starts : SameCut [] []
cut_starts = record { same = λ rest. refl; ended = λ rest. refl }

pub cut_more : (used raw part : List ℕ) → SameCut used raw → SameCut (used ++ part) (raw ++ part)
cut_more used raw part cut = record {
  same = λ rest. same_start commands used raw part rest cut.same;
  ended = λ rest. same_start ended_commands used raw part rest cut.ended;
}

-- behind an LF that ended no command
pub cut_skips : (used raw : List ℕ) → InOneLine raw → is_command (strip_carriage_return raw) ≡ false → SameCut used raw → SameCut (used ++ 10 ∷ []) []
cut_skips used raw one skipped cut = record {
  same = λ rest. ap commands (append_assoc used (10 ∷ []) rest) ∙ cut.same (10 ∷ rest) ∙ commands_ended raw rest one
      ∙ ap (λ t. cond t (strip_carriage_return raw ∷ commands rest) (commands rest)) skipped;
  ended = λ rest. ap ended_commands (append_assoc used (10 ∷ []) rest) ∙ cut.ended (10 ∷ rest) ∙ ended_ended raw rest one
      ∙ ap (λ t. cond t (strip_carriage_return raw ∷ ended_commands rest) (ended_commands rest)) skipped;
}

-- behind an LF that ended a command
pub cut_gives : (used raw rest : List ℕ) → InOneLine raw → is_command (strip_carriage_return raw) ≡ true → SameCut used raw →
    commands ((used ++ 10 ∷ []) ++ rest) ≡ strip_carriage_return raw ∷ commands rest
cut_gives used raw rest one begins cut =
    ap commands (append_assoc used (10 ∷ []) rest) ∙ cut.same (10 ∷ rest) ∙ commands_ended raw rest one
    ∙ ap (λ t. cond t (strip_carriage_return raw ∷ commands rest) (commands rest)) begins

pub cut_gives_ended : (used raw rest : List ℕ) → InOneLine raw → is_command (strip_carriage_return raw) ≡ true → SameCut used raw →
    ended_commands ((used ++ 10 ∷ []) ++ rest) ≡ strip_carriage_return raw ∷ ended_commands rest
cut_gives_ended used raw rest one begins cut =
    ap ended_commands (append_assoc used (10 ∷ []) rest) ∙ cut.ended (10 ∷ rest) ∙ ended_ended raw rest one
    ∙ ap (λ t. cond t (strip_carriage_return raw ∷ ended_commands rest) (ended_commands rest)) begins

-- where the bytes stop
pub cut_stops : (used raw : List ℕ) → SameCut used raw → commands used ≡ commands raw
cut_stops used raw cut = ap commands (sym (append-nil used)) ∙ cut.same [] ∙ ap commands (append-nil raw)

pub cut_stops_ended : (used raw : List ℕ) → InOneLine raw → SameCut used raw → ended_commands used ≡ []
cut_stops_ended used raw one cut = ap ended_commands (sym (append-nil used)) ∙ cut.ended [] ∙ ap ended_commands (append-nil raw) ∙ ended_none raw one

-- a CR at the end is the only byte that is lost
pub strip_length : (raw : List ℕ) → (length raw ≤ length (strip_carriage_return raw) + 1) × (length (strip_carriage_return raw) ≤ length raw)
strip_length raw = by_last (eqb (get_or raw (length raw - 1) 0) 13) where
  by_last : (t : Bool) → (length raw ≤ length (cond t (take (length raw - 1) raw) raw) + 1) × (length (cond t (take (length raw - 1) raw) raw) ≤ length raw)
  by_last true =
      let short = length-take-le (length raw - 1) raw (omega arith) in (omega (arith, short), omega (arith, short))
  by_last false = (omega arith, omega arith)

-- what is left begins as the line does
pub strip_begins : (b : ℕ) (raw : List ℕ) → 0 < length (strip_carriage_return (b ∷ raw)) → (more : List ℕ) × (strip_carriage_return (b ∷ raw) ≡ b ∷ more)
strip_begins b raw = by_last (eqb (get_or (b ∷ raw) (length (b ∷ raw) - 1) 0) 13) where
  by_len : (xs : List ℕ) (n : ℕ) → 0 < length (take n (b ∷ xs)) → (more : List ℕ) × (take n (b ∷ xs) ≡ b ∷ more)
  by_len xs zero some = absurd (omega (arith, some))
  by_len xs (suc n) some = (take n xs, refl)

  by_last : (t : Bool) → 0 < length (cond t (take (length (b ∷ raw) - 1) (b ∷ raw)) (b ∷ raw)) → (more : List ℕ) × (cond t (take (length (b ∷ raw) - 1) (b ∷ raw)) (b ∷ raw) ≡ b ∷ more)
  by_last true some = by_len raw (length (b ∷ raw) - 1) some
  by_last false some = (raw, refl)

comment_at : (b : ℕ) (xs : List ℕ) → (0 < length xs → (more : List ℕ) × (xs ≡ b ∷ more)) → eqb b 35 ≡ true → is_command xs ≡ false
comment_at b [] begins comment = refl
comment_at b (x ∷ xs) begins comment = ap is_command (begins (omega arith)).1 ∙ ap not comment

command_at : (b : ℕ) (xs : List ℕ) → (0 < length xs → (more : List ℕ) × (xs ≡ b ∷ more)) → eqb b 35 ≡ false → 0 < length xs → is_command xs ≡ true
command_at b [] begins plain some = absurd (omega (arith, some))
command_at b (x ∷ xs) begins plain some = ap is_command (begins some).1 ∙ ap not plain

-- a comment is no command, with its CR or without
pub comment_skipped : (raw : List ℕ) → is_comment raw ≡ true → is_command (strip_carriage_return raw) ≡ false
comment_skipped [] comment = cc
comment_skipped (b ∷ raw) comment = comment_at b (strip_carriage_return (b ∷ raw)) (strip_begins b raw) comment

-- other bytes are one, where some are left
pub plain_begins : (raw : List ℕ) → is_comment raw ≡ false → 0 < length (strip_carriage_return raw) → is_command (strip_carriage_return raw) ≡ true
plain_begins [] plain some = absurd (omega (arith, some))
plain_begins (b ∷ raw) plain some = command_at b (strip_carriage_return (b ∷ raw)) (strip_begins b raw) plain some

-- nothing but an empty line is skipped beside comments
pub nothing_left : (xs : List ℕ) → length xs ≡ 0 → is_command xs ≡ false
nothing_left [] none = refl
nothing_left (x ∷ xs) none = absurd (omega (arith, none))

-- bytes of a line in its first bytes
pub plain_raw : (raw : List ℕ) → is_comment raw ≡ false → 0 < length raw → is_command raw ≡ true
plain_raw [] plain some = absurd (omega (arith, some))
plain_raw (b ∷ raw) plain some = ap not plain

pub comment_raw : (raw : List ℕ) → is_comment raw ≡ true → is_command raw ≡ false
comment_raw [] comment = cc
comment_raw (b ∷ raw) comment = ap not comment

plain_more : (raw part : List ℕ) → 0 < length raw → is_comment raw ≡ false → is_comment (raw ++ part) ≡ false
plain_more [] part some plain = absurd (omega (arith, some))
plain_more (b ∷ raw) part some plain = plain

pub first_long : (lists rest : List (List ℕ)) (line : List ℕ) → lists ≡ line ∷ rest → 200 < length line → FirstIsLong lists
first_long lists rest line is long = subst FirstIsLong (sym is) long

-- a line that is too long stays so whatever follows
pub long_whatever : (raw rest : List ℕ) → IsTooLong raw → FirstIsLong (commands (raw ++ rest))
long_whatever raw [] is =
    let long : 200 < length raw = omega (arith, is.long, (strip_length raw).1) in
    subst (λ bytes. FirstIsLong (commands bytes)) (sym (append-nil raw))
    (first_long (commands raw) [] raw (commands_last raw is.one (plain_raw raw is.plain (omega (arith, long)))) long)
long_whatever raw (b ∷ rest) is = by_byte (λ other. long_whatever (raw ++ b ∷ []) rest (one_more other)) (eqb b 10) refl where
  some : 0 < length (strip_carriage_return raw)
  some = omega (arith, is.long)

  one_more : eqb b 10 ≡ false → IsTooLong (raw ++ b ∷ [])
  one_more other = record {
    one = All-append (λ x. eqb x 10 ≡ false) raw (b ∷ []) is.one (All-cons (λ x. eqb x 10 ≡ false) b [] other (All-nil (λ x. eqb x 10 ≡ false)));
    plain = plain_more raw (b ∷ []) (omega (arith, is.long, (strip_length raw).1)) is.plain;
    long = omega (arith, is.long, (strip_length raw).1, (strip_length (raw ++ b ∷ [])).0, length-append raw (b ∷ []));
  }

  by_byte : (eqb b 10 ≡ false → FirstIsLong (commands ((raw ++ b ∷ []) ++ rest))) → (t : Bool) → eqb b 10 ≡ t → FirstIsLong (commands (raw ++ b ∷ rest))
  by_byte longer true newline =
      let is_ten : b ≡ 10 = grind (arith, nat_tests, newline) in
      subst (λ x. FirstIsLong (commands (raw ++ x ∷ rest))) (sym is_ten)
      (first_long (commands (raw ++ 10 ∷ rest)) (commands rest) (strip_carriage_return raw)
      (commands_ended raw rest is.one ∙ ap (λ t. cond t (strip_carriage_return raw ∷ commands rest) (commands rest)) (plain_begins raw is.plain some)) is.long)
  by_byte longer false other = subst (λ bytes. FirstIsLong (commands bytes)) (append_assoc raw (b ∷ []) rest) (longer other)

-- the place of a first LF cuts the bytes in two
pub found_newline : (bytes : List ℕ) (i : ℕ) → position is_newline bytes ≡ Some i →
    (i < length bytes) × (bytes ≡ take i bytes ++ 10 ∷ drop (i + 1) bytes) × InOneLine (take i bytes)
found_newline bytes i found =
    let parts = chosen (ltb (position_or_len is_newline bytes) (length bytes)) (position_or_len is_newline bytes) i found in
    let within : position_or_len is_newline bytes < length bytes = ltb-true _ _ parts.0 in
    let here : i < length bytes = subst (λ k. k < length bytes) parts.1 within in
    let ten : get_or bytes i 0 ≡ 10 =
    grind (arith, nat_tests, subst (λ k. is_newline (get_or bytes k 0) ≡ true) parts.1 (passes_at_first is_newline bytes 0 within)) in (
      here,
      sym (take-append-drop i bytes) ∙ ap (λ rest. take i bytes ++ rest) (drop_more bytes i 0 here ∙ ap (λ x. x ∷ drop (i + 1) bytes) ten),
      All-from_get_or (λ x. is_newline x ≡ false) (take i bytes) 0
          (λ k low. let short : k < i = omega (arith, low, length-take-le i bytes (omega (arith, here))) in
          ap is_newline (get_or-take i bytes k 0 short) ∙ fails_before_first is_newline bytes k 0 (omega (arith, short, parts.1))),
    )

pub no_newline : (bytes : List ℕ) → position is_newline bytes ≡ None → InOneLine bytes
no_newline bytes missing =
    let past : length bytes ≤ position_or_len is_newline bytes = beyond (position_or_len is_newline bytes) (length bytes) missing in
    All-from_get_or (λ x. is_newline x ≡ false) bytes 0 (λ i within. fails_before_first is_newline bytes i 0 (omega (arith, past, within)))

passing : (xs : List ℕ) → InOneLine xs → All (λ b. not (eqb b 10) ≡ true) xs
passing xs one k d lt = ap not (one k d lt)

-- a short line in one piece can be kept
kept_is_line : (xs : List ℕ) → InOneLine xs → is_command xs ≡ true → length xs ≤ 200 → is_line xs ≡ true
kept_is_line xs one begins short =
    both (is_command xs && nat_le (length xs) 200) (list_all (λ b. not (eqb b 10)) xs)
    (both (is_command xs) (nat_le (length xs) 200) begins (grind (arith, nat_tests, short)))
    (list_all-from_AllPass (λ b. not (eqb b 10)) xs (passing xs one))

stripped_one : (xs : List ℕ) → InOneLine xs → InOneLine (strip_carriage_return xs)
stripped_one xs one = by_last (eqb (get_or xs (length xs - 1) 0) 13) where
  by_last : (t : Bool) → InOneLine (cond t (take (length xs - 1) xs) xs)
  by_last true = All-take (λ x. eqb x 10 ≡ false) (length xs - 1) xs one
  by_last false = one

pub ended_is_line : (kept : List ℕ) → InOneLine kept → is_comment kept ≡ false → length (strip_carriage_return kept) ≤ 200 →
    0 < length (strip_carriage_return kept) → is_line (strip_carriage_return kept) ≡ true
ended_is_line kept one plain short some = kept_is_line (strip_carriage_return kept) (stripped_one kept one) (plain_begins kept plain some) short

pub raw_is_line : (kept : List ℕ) → InOneLine kept → is_comment kept ≡ false → length kept ≤ 200 → 0 < length kept → is_line kept ≡ true
raw_is_line kept one plain short some = kept_is_line kept one (plain_raw kept plain some) short

-- more bytes of a line that is open and no comment
pub line_added : (raw part : List ℕ) → InOneLine raw → InOneLine part → InOneLine (raw ++ part)
line_added raw part one more = All-append (λ x. eqb x 10 ≡ false) raw part one more

pub plain_added : (raw part : List ℕ) → is_comment raw ≡ false → (length raw ≡ 0 → is_comment part ≡ false) → is_comment (raw ++ part) ≡ false
plain_added [] part plain first = first refl
plain_added (b ∷ raw) part plain first = plain

pub with_newline : (raw : List ℕ) → InOneLine raw → commands (raw ++ 10 ∷ []) ≡ cond (is_command (strip_carriage_return raw)) (strip_carriage_return raw ∷ []) []
with_newline raw one = commands_ended raw [] one

pub starts_nothing : StandsFor [] nothing_open
starts_nothing = record { one = All-nil (λ x. eqb x 10 ≡ false); skips = refl; kept = λ none. refl; short = λ none. omega arith }

pub no_comment : (kept part : List ℕ) → (eqb (length kept) 0 && is_comment part) ≡ false → length kept ≡ 0 → is_comment part ≡ false
no_comment [] part told none = told
no_comment (b ∷ kept) part told none = absurd (omega (arith, none))

pub not_short : (t : Bool) (n : ℕ) → (n ≤ 200 → t ≡ true) → t ≡ false → 200 < n
not_short t n short told = lt_of_not-le (λ within. absurd (cc (told, short within)))
