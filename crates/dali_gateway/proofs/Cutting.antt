use Rattle.std.proofs.Common.{◌≡◌, ◌∙◌, ℕ, ◌+◌, ◌-◌, ◌<◌, ◌≤◌, Bool, true, false, cond, eqb, inl, inr, Some, None, List, [], ◌∷◌, ◌++◌, length, take, drop, get_or, refl, sym, ap, arith, append_assoc}
use Rattle.std.proofs.lemmas.Bool.Decides.{nat_tests}
use Rattle.std.proofs.lemmas.Bool.{cases_Bool}
use Rattle.std.proofs.lemmas.List.{length-append, length-take-le, take_at, take-take, take_all, drop_all, get_or_at}
use Rattle.std.proofs.lemmas.List.Elements.{All-append, All-cons, All-nil}
use Rattle.std.specs.List.{position}
use Rattle.std.specs.Str.Lines.{strip_carriage_return}
use Rattle.dali_line.specs.Commands.{is_command, commands}
use Rattle.dali_line.specs.Open.{InOneLine, SameCut}
use Rattle.dali_gateway.specs.Inboxes.{IsFirstLine}
use Rattle.dali_line.proofs.Ends.{cut_skips, cut_gives, commands_last, commands_none, found_newline, no_newline}

-- The first line of some bytes, and the commands behind it.

abbrev pub if_command : List ℕ → List (List ℕ) → List (List ℕ)
if_command line rest = cond (is_command line) (line ∷ rest) rest

same_cut : (raw : List ℕ) → SameCut raw raw
same_cut raw = record { same = λ rest. refl; ended = λ rest. refl }

-- a line that an LF ended
pub ended_line : (raw rest : List ℕ) → InOneLine raw → commands (raw ++ 10 ∷ rest) ≡ if_command (strip_carriage_return raw) (commands rest)
ended_line raw rest one = elim (cases_Bool (is_command (strip_carriage_return raw))) [
  | inl told ↦ ap commands (sym (append_assoc raw (10 ∷ []) rest)) ∙ cut_gives raw raw rest one told (same_cut raw)
      ∙ sym (ap (λ (t : Bool). cond t (strip_carriage_return raw ∷ commands rest) (commands rest)) told)
  | inr untold ↦ ap commands (sym (append_assoc raw (10 ∷ []) rest)) ∙ (cut_skips raw raw one untold (same_cut raw)).same rest
      ∙ sym (ap (λ (t : Bool). cond t (strip_carriage_return raw ∷ commands rest) (commands rest)) untold)
]

-- the last line, which the end of the bytes ended
pub last_line : (raw : List ℕ) → InOneLine raw → commands raw ≡ if_command raw []
last_line raw one = elim (cases_Bool (is_command raw)) [
  | inl told ↦ commands_last raw one told ∙ sym (ap (λ (t : Bool). cond t (raw ∷ []) []) told)
  | inr untold ↦ commands_none raw one untold ∙ sym (ap (λ (t : Bool). cond t (raw ∷ []) []) untold)
]

pub cut_ended : (bytes : List ℕ) (at len : ℕ) → position (λ b. eqb b 10) bytes ≡ Some at → len ≤ length (take at bytes) →
    take len (take at bytes) ≡ strip_carriage_return (take at bytes) → IsFirstLine bytes len (at + 1)
cut_ended bytes at len found fits stripped =
    let newline = found_newline bytes at found in
    let short : len ≤ at = omega (arith, fits, length-take-le at bytes (omega (arith, newline.0))) in
    let line : take len bytes ≡ strip_carriage_return (take at bytes) = sym (take-take len at bytes short) ∙ stripped in
    record {
      order = omega (arith, short);
      some = omega arith;
      within = omega (arith, newline.0);
      first = ap commands newline.1 ∙ ended_line (take at bytes) (drop (at + 1) bytes) newline.2
          ∙ ap (λ (l : List ℕ). if_command l (commands (drop (at + 1) bytes))) (sym line);
    }

pub cut_last : (bytes : List ℕ) → 0 < length bytes → position (λ b. eqb b 10) bytes ≡ None → IsFirstLine bytes (length bytes) (length bytes)
cut_last bytes some none = record {
  order = omega arith;
  some = some;
  within = omega arith;
  first = last_line bytes (no_newline bytes none)
      ∙ ap (λ (l : List ℕ). if_command l []) (sym (take_all (length bytes) bytes (omega arith)))
      ∙ ap (λ (l : List ℕ). if_command (take (length bytes) bytes) (commands l)) (sym (drop_all (length bytes) bytes (omega arith)));
}

pub gives : (line : List ℕ) (rest : List (List ℕ)) → is_command line ≡ true → if_command line rest ≡ line ∷ rest
gives line rest told = ap (λ (t : Bool). cond t (line ∷ rest) rest) told

-- A command as the merge writes it is that command again.

-- bytes in one line that are a command
pub record IsCommand (bytes : List ℕ) : Type 0 where
  pub one : InOneLine bytes
  pub begins : is_command bytes ≡ true

stripped : (bytes : List ℕ) → strip_carriage_return (bytes ++ 13 ∷ []) ≡ bytes
stripped bytes =
    let long : length (bytes ++ 13 ∷ []) - 1 ≡ length bytes = omega (arith, length-append bytes (13 ∷ [])) in
    let last : get_or (bytes ++ 13 ∷ []) (length (bytes ++ 13 ∷ []) - 1) 0 ≡ 13 = get_or_at bytes 13 [] 0 (length (bytes ++ 13 ∷ []) - 1) (sym long) in
    let test : eqb (get_or (bytes ++ 13 ∷ []) (length (bytes ++ 13 ∷ []) - 1) 0) 13 ≡ true = grind (arith, nat_tests, last) in
    ap (λ (t : Bool). cond t (take (length (bytes ++ 13 ∷ []) - 1) (bytes ++ 13 ∷ [])) (bytes ++ 13 ∷ [])) test
    ∙ take_at bytes (13 ∷ []) (length (bytes ++ 13 ∷ []) - 1) (sym long)

pub read_back : (command rest : List ℕ) → IsCommand command → commands ((command ++ 13 ∷ 10 ∷ []) ++ rest) ≡ command ∷ commands rest
read_back command rest is =
    let raw = command ++ 13 ∷ [] in
    let one : InOneLine raw = All-append (λ b. eqb b 10 ≡ false) command (13 ∷ []) is.one (All-cons (λ b. eqb b 10 ≡ false) 13 [] refl (All-nil (λ b. eqb b 10 ≡ false))) in
    let parted : (command ++ 13 ∷ 10 ∷ []) ++ rest ≡ raw ++ 10 ∷ rest = append_assoc command (13 ∷ 10 ∷ []) rest ∙ sym (append_assoc command (13 ∷ []) (10 ∷ rest)) in
    ap commands parted ∙ ended_line raw rest one
    ∙ ap (λ (l : List ℕ). if_command l (commands rest)) (stripped command)
    ∙ gives command (commands rest) is.begins
