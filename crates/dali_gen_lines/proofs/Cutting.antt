use Rattle.std.proofs.Common.{◌≡◌, ◌∙◌, ℕ, ◌+◌, ◌<◌, ◌≤◌, Bool, true, false, eqb, Option, Some, None, List, [], ◌∷◌, ◌++◌, length, take, drop, get_or, refl, sym, ap, subst, arith, append_assoc, length-append, length-drop}
use Rattle.std.proofs.Math.ListN.{get_or-append}
use Rattle.std.proofs.Math.Seq.{get_or-append_seam, take-append_seam, drop-append_seam}
use Rattle.std.proofs.lemmas.List.Quantifiers.{position-Some}
use Rattle.std.proofs.lemmas.List.Sums.{fails_before_first}
use Rattle.std.proofs.lemmas.List.{drop-drop}
use Rattle.std.specs.List.{list_all, position, position_or_len}
use Rattle.dali_base.proofs.Spelled.{and_parts}
use Rattle.dali_line.specs.Commands.{commands}
use Rattle.dali_line.proofs.Cuts.{beyond}
use Rattle.dali_gen.specs.Day.{text_of}
use Rattle.dali_gen_lines.specs.Plain.{is_plain}
use Rattle.dali_gen_lines.specs.DayLines.{IsAtLine}
use Rattle.dali_gen_lines.proofs.Plain.{newline_at}
use Rattle.dali_gen_lines.proofs.Texts.{commands_text}

abbrev is_newline : ℕ → Bool
is_newline b = eqb b 10

drop_drop : (xs : List ℕ) (a b : ℕ) → drop (a + b) xs ≡ drop b (drop a xs)
drop_drop xs a b = sym (drop-drop b a xs)

-- the first LF stands behind a plain line
newline_behind : (line rest : List ℕ) (i : ℕ) → is_plain line ≡ true → position is_newline (line ++ 10 ∷ rest) ≡ Some i → i ≡ length line
newline_behind line rest i told found =
    let first = position-Some is_newline (line ++ 10 ∷ rest) i 0 found in
    let low : i < length line → ⊥ =
    λ (early : i < length line).
    let here : eqb (get_or line i 0) 10 ≡ true = ap (λ b. eqb b 10) (sym (get_or-append line (10 ∷ rest) 0 i early)) ∙ first.1 in
    let not : eqb (get_or line i 0) 10 ≡ false = newline_at line told i early in
    absurd (cc) in
    let high : length line < i → ⊥ =
    λ (late : length line < i).
    let none : eqb (get_or (line ++ 10 ∷ rest) (length line) 0) 10 ≡ false = first.2 (length line) late in
    let here : eqb (get_or (line ++ 10 ∷ rest) (length line) 0) 10 ≡ true = ap (λ b. eqb b 10) (get_or-append_seam line 10 rest 0) in
    absurd (cc) in
    omega (arith, low, high)

-- and there is one
newline_there : (line rest : List ℕ) → position is_newline (line ++ 10 ∷ rest) ≡ None → ⊥
newline_there line rest missing =
    let past : length (line ++ 10 ∷ rest) ≤ position_or_len is_newline (line ++ 10 ∷ rest) = beyond (position_or_len is_newline (line ++ 10 ∷ rest)) (length (line ++ 10 ∷ rest)) missing in
    let within : length line < position_or_len is_newline (line ++ 10 ∷ rest) = omega (arith, past, length-append line (10 ∷ rest)) in
    let none : eqb (get_or (line ++ 10 ∷ rest) (length line) 0) 10 ≡ false = fails_before_first is_newline (line ++ 10 ∷ rest) (length line) 0 within in
    let here : eqb (get_or (line ++ 10 ∷ rest) (length line) 0) 10 ≡ true = ap (λ b. eqb b 10) (get_or-append_seam line 10 rest 0) in
    absurd (cc)

-- what the first line of a text of plain lines is, by the place of the first LF
pub record IsCut (rest : List ℕ) (lines : List (List ℕ)) (length_of : ℕ) : Type 0 where
  pub more : List (List ℕ)
  pub parts : lines ≡ take length_of rest ∷ more
  pub within : length_of < length rest
  pub behind : drop (length_of + 1) rest ≡ text_of more
  pub plain : is_plain (take length_of rest) ≡ true
  pub others : list_all is_plain more ≡ true

pub cut : (rest : List ℕ) (lines : List (List ℕ)) (i : ℕ) → rest ≡ text_of lines → list_all is_plain lines ≡ true →
    position is_newline rest ≡ Some i → IsCut rest lines i
cut rest [] i is told found =
    let first = position-Some is_newline rest i 0 found in
    absurd (omega (arith, first.0, ap length is))
cut rest (line ∷ more) i is told found =
    let parts = and_parts (is_plain line) (list_all is_plain more) told in
    let whole : rest ≡ line ++ 10 ∷ text_of more = is ∙ append_assoc line (10 ∷ []) (text_of more) in
    let at : i ≡ length line = newline_behind line (text_of more) i parts.0 (subst (λ (xs : List ℕ). position is_newline xs ≡ Some i) whole found) in
    let front : take i rest ≡ line = ap (λ (k : ℕ). take k rest) at ∙ ap (λ (xs : List ℕ). take (length line) xs) whole ∙ take-append_seam line (10 ∷ text_of more) in
    record {
      more = more;
      parts = ap (λ (l : List ℕ). l ∷ more) (sym front);
      within = omega (arith, at, ap length whole, length-append line (10 ∷ text_of more));
      behind =
          ap (λ (k : ℕ). drop k rest) (ap (λ (k : ℕ). k + 1) at ∙ sym (length-append line (10 ∷ [])))
          ∙ ap (λ (xs : List ℕ). drop (length (line ++ 10 ∷ [])) xs) is
          ∙ drop-append_seam (line ++ 10 ∷ []) (text_of more);
      plain = subst (λ (l : List ℕ). is_plain l ≡ true) (sym front) parts.0;
      others = parts.1;
    }

-- where there is no LF, there is no line
pub no_cut : (rest : List ℕ) (lines : List (List ℕ)) → rest ≡ text_of lines → position is_newline rest ≡ None → lines ≡ []
no_cut rest [] is missing = refl
no_cut rest (line ∷ more) is missing =
    let whole : rest ≡ line ++ 10 ∷ text_of more = is ∙ append_assoc line (10 ∷ []) (text_of more) in
    absurd (newline_there line (text_of more) (subst (λ (xs : List ℕ). position is_newline xs ≡ None) whole missing))

-- what stands where, behind the first line
pub moved : (day : List ℕ) (at i : ℕ) (lines : List (List ℕ)) → at ≤ length day → drop at day ≡ text_of lines → list_all is_plain lines ≡ true →
    position is_newline (drop at day) ≡ Some i → IsAtLine (record { day = day; at = at + (i + 1) })
moved day at i lines within is plain found =
    let first : IsCut (drop at day) lines i = cut (drop at day) lines i is plain found in
    let behind : drop (at + (i + 1)) day ≡ text_of first.more = drop_drop day at (i + 1) ∙ first.behind in
    let left : commands (drop (at + (i + 1)) day) ≡ first.more = ap commands behind ∙ commands_text first.more first.others in
    record {
      within = omega (arith, within, first.within, length-drop at day);
      rest = behind ∙ ap text_of (sym left);
      plain = ap (list_all is_plain) left ∙ first.others;
    }

-- the line that was cut off, and those left
pub taken : (day : List ℕ) (at i : ℕ) (lines : List (List ℕ)) → drop at day ≡ text_of lines → list_all is_plain lines ≡ true →
    position is_newline (drop at day) ≡ Some i → lines ≡ take i (drop at day) ∷ commands (drop (at + (i + 1)) day)
taken day at i lines is plain found =
    let first : IsCut (drop at day) lines i = cut (drop at day) lines i is plain found in
    let behind : drop (at + (i + 1)) day ≡ text_of first.more = drop_drop day at (i + 1) ∙ first.behind in
    let left : commands (drop (at + (i + 1)) day) ≡ first.more = ap commands behind ∙ commands_text first.more first.others in
    first.parts ∙ ap (λ (ls : List (List ℕ)). take i (drop at day) ∷ ls) (sym left)
