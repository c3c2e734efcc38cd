use Rattle.std.proofs.Common.{◌≡◌, ◌≢◌, ◌∙◌, inl, inr, ℕ, zero, suc, take, get_or, ◌+◌, ◌<◌, ◌≤◌, Bool, true, false, cond, List, [], ◌∷◌, ◌++◌, length, refl, sym, ap, subst, arith, append_assoc, append-nil}
use Rattle.std.proofs.lemmas.List.{length-append}
use Rattle.std.specs.Prelude.{IsTrue}
use Rattle.std.specs.Str.Lines.{strip_carriage_return}
use Rattle.dali_line.specs.Limits.{most_command, most_file}
use Rattle.dali_line.specs.Commands.{is_command, commands, ended_commands}
use Rattle.dali_line.specs.Lines.{Reach, FirstIsLong, IsLong, BreaksOff, MeetsLine, MeetsLast, WantsMemory}
use Rattle.dali_line.specs.Open.{Open, InOneLine, is_comment, StandsFor, IsTooLong, Midway, nothing_open}
use Rattle.dali_line.proofs.Ends.{comment_skipped, cut_starts, cut_more, cut_skips, cut_gives, cut_gives_ended, cut_stops, cut_stops_ended, long_whatever, with_newline, starts_nothing}

no_first : (lists rest : List (List ℕ)) (line : List ℕ) (t : Bool) → lists ≡ cond t (line ∷ rest) rest → rest ≡ [] → (t ≡ true → length line ≤ 200) → ¬ (FirstIsLong lists)
no_first lists rest line true is empty short long =
    let far : 200 < length line = subst FirstIsLong is long in absurd (omega (arith, far, short refl))
no_first lists rest line false is empty short long = subst FirstIsLong (is ∙ empty) long

-- an LF behind an open line ends a command that isn't long, or none
pub not_long_with_newline : (raw : List ℕ) (line : Open) → StandsFor raw line → ¬ (FirstIsLong (commands (raw ++ 10 ∷ [])))
not_long_with_newline raw line stands = by_kind (is_comment raw) refl where
  by_kind : (t : Bool) → is_comment raw ≡ t → ¬ (FirstIsLong (commands (raw ++ 10 ∷ [])))
  by_kind true comment =
      no_first _ [] (strip_carriage_return raw) (is_command (strip_carriage_return raw)) (with_newline raw stands.one) refl
      (λ begins. absurd (cc (begins, comment_skipped raw comment)))
  by_kind false plain =
      no_first _ [] (strip_carriage_return raw) (is_command (strip_carriage_return raw)) (with_newline raw stands.one) refl
      (λ begins. stands.short (stands.skips ∙ plain))

pub not_long : (raw : List ℕ) (line : Open) → StandsFor raw line → ¬ (IsLong raw)
not_long raw line stands long = not_long_with_newline raw line stands (long (10 ∷ []))

pub newline_not_long : (raw : List ℕ) (line : Open) → StandsFor raw line → ¬ (IsLong (raw ++ 10 ∷ []))
newline_not_long raw line stands long =
    not_long_with_newline raw line stands (subst (λ bytes. FirstIsLong (commands bytes)) (append-nil (raw ++ 10 ∷ [])) (long []))

module _ (told : Bool) (old now : Reach) (line : Open) (m : Midway told old line now) where
  -- all that was got, where nothing is pending
  all_used : now.pending ≡ [] → old.pending ++ m.got ≡ m.used
  all_used empty = m.parted ∙ ap (λ rest. m.used ++ rest) empty ∙ append-nil m.used

  pub midway_none_ended : now.pending ≡ [] → ended_commands (old.pending ++ m.got) ≡ []
  midway_none_ended empty = ap ended_commands (all_used empty) ∙ cut_stops_ended m.used m.raw m.stands.one m.cut

  -- behind bytes that weren't pending
  same_behind : now.pending ≡ [] → (more rest : List ℕ) → commands ((old.pending ++ (m.got ++ more)) ++ rest) ≡ commands ((m.raw ++ more) ++ rest)
  same_behind empty more rest =
      ap (λ bytes. commands (bytes ++ rest)) (sym (append_assoc old.pending m.got more) ∙ ap (λ bytes. bytes ++ more) (all_used empty))
      ∙ (cut_more m.used m.raw more m.cut).same rest

  pub long_past : now.pending ≡ [] → (more : List ℕ) → IsTooLong (m.raw ++ more) → IsLong (old.pending ++ (m.got ++ more))
  long_past empty more is rest = subst FirstIsLong (sym (same_behind empty more rest)) (long_whatever (m.raw ++ more) rest is)

  pub short_past : now.pending ≡ [] → (more : List ℕ) → ¬ (IsLong (m.raw ++ more)) → ¬ (IsLong (old.pending ++ (m.got ++ more)))
  short_past empty more short long = short (λ rest. subst FirstIsLong (same_behind empty more rest) (long rest))

  pub midway_not_long : now.pending ≡ [] → ¬ (IsLong (old.pending ++ m.got))
  midway_not_long empty long =
      not_long m.raw line m.stands (λ rest. subst FirstIsLong (ap (λ bytes. commands (bytes ++ rest)) (all_used empty) ∙ m.cut.same rest) (long rest))

  -- bytes within the block that are too long already
  pub long_within : (part rest : List ℕ) → now.pending ≡ part ++ rest → IsTooLong (m.raw ++ part) → IsLong (old.pending ++ m.got)
  long_within part rest is long behind =
      subst FirstIsLong
      (sym (ap (λ bytes. commands (bytes ++ behind)) (m.parted ∙ ap (λ bytes. m.used ++ bytes) is ∙ sym (append_assoc m.used part rest))
      ∙ ap commands (append_assoc (m.used ++ part) rest behind)
      ∙ (cut_more m.used m.raw part m.cut).same (rest ++ behind)))
      (long_whatever (m.raw ++ part) (rest ++ behind) long)

  pub breaks_off : (left : List ℕ) → now.pending ≡ [] → (IsTrue told → left ≡ now.left) → BreaksOff told old (record { pending = []; taken = now.taken; left = left })
  breaks_off left empty kept = record {
    got = m.got;
    gets = record { moved = λ tells. m.gets.moved tells ∙ ap (λ rest. m.got ++ rest) (sym (kept tells)); taken = m.gets.taken; within = m.gets.within };
    none_ended = midway_none_ended empty;
    none_long = midway_not_long empty;
  }

  -- more bytes came into the block
  pub got_more : (more left : List ℕ) → now.pending ≡ [] → (IsTrue told → now.left ≡ more ++ left) → now.taken + length more ≤ most_file →
      Midway told old line (record { pending = more; taken = now.taken + length more; left = left })
  got_more more left empty moved within = record {
    got = m.got ++ more;
    gets = record {
      moved = λ tells. m.gets.moved tells ∙ ap (λ rest. m.got ++ rest) (moved tells) ∙ sym (append_assoc m.got more left);
      taken = omega (arith, m.gets.taken, length-append m.got more);
      within = within;
    };
    used = m.used;
    parted = sym (append_assoc old.pending m.got more) ∙ ap (λ bytes. bytes ++ more) (all_used empty);
    raw = m.raw;
    stands = m.stands;
    cut = m.cut;
  }

  moved_on : (part rest : List ℕ) → now.pending ≡ part ++ rest → old.pending ++ m.got ≡ (m.used ++ part) ++ rest
  moved_on part rest is = m.parted ∙ ap (λ bytes. m.used ++ bytes) is ∙ sym (append_assoc m.used part rest)

  -- the block is used up, and the line goes on
  pub goes_on : (line' : Open) → StandsFor (m.raw ++ now.pending) line' → Midway told old line' (record { pending = []; taken = now.taken; left = now.left })
  goes_on line' stands = record {
    got = m.got;
    gets = record { moved = m.gets.moved; taken = m.gets.taken; within = m.gets.within };
    used = m.used ++ now.pending;
    parted = m.parted ∙ sym (append-nil (m.used ++ now.pending));
    raw = m.raw ++ now.pending;
    stands = stands;
    cut = cut_more m.used m.raw now.pending m.cut;
  }

  newline_parts : (part rest : List ℕ) → now.pending ≡ part ++ 10 ∷ rest → old.pending ++ m.got ≡ ((m.used ++ part) ++ 10 ∷ []) ++ rest
  newline_parts part rest is = moved_on part (10 ∷ rest) is ∙ sym (append_assoc (m.used ++ part) (10 ∷ []) rest)

  -- an LF ended a line that is no command
  pub skips_line : (part rest : List ℕ) → now.pending ≡ part ++ 10 ∷ rest → InOneLine (m.raw ++ part) → is_command (strip_carriage_return (m.raw ++ part)) ≡ false →
      Midway told old nothing_open (record { pending = rest; taken = now.taken; left = now.left })
  skips_line part rest is one skipped = record {
    got = m.got;
    gets = record { moved = m.gets.moved; taken = m.gets.taken; within = m.gets.within };
    used = (m.used ++ part) ++ 10 ∷ [];
    parted = newline_parts part rest is;
    raw = [];
    stands = starts_nothing;
    cut = cut_skips (m.used ++ part) (m.raw ++ part) one skipped (cut_more m.used m.raw part m.cut);
  }

  -- an LF ended a command
  pub meets_line : (part rest : List ℕ) → now.pending ≡ part ++ 10 ∷ rest → InOneLine (m.raw ++ part) → is_command (strip_carriage_return (m.raw ++ part)) ≡ true →
      MeetsLine told (strip_carriage_return (m.raw ++ part)) old (record { pending = rest; taken = now.taken; left = now.left })
  meets_line part rest is one begins = record {
    got = m.got;
    gets = record { moved = m.gets.moved; taken = m.gets.taken; within = m.gets.within };
    used = (m.used ++ part) ++ 10 ∷ [];
    parted = newline_parts part rest is;
    first = λ behind. cut_gives (m.used ++ part) (m.raw ++ part) behind one begins (cut_more m.used m.raw part m.cut);
    ended = λ behind. cut_gives_ended (m.used ++ part) (m.raw ++ part) behind one begins (cut_more m.used m.raw part m.cut);
  }

  -- the end of input
  pub all_commands : now.pending ≡ [] → commands (old.pending ++ m.got) ≡ commands m.raw
  all_commands empty = ap commands (all_used empty) ∙ cut_stops m.used m.raw m.cut

-- where a call starts
pub midway_starts : (told : Bool) (old : Reach) → old.taken ≤ most_file → Midway told old nothing_open old
midway_starts told old within = record {
  got = [];
  gets = record { moved = λ tells. refl; taken = omega arith; within = within };
  used = [];
  parted = append-nil old.pending;
  raw = [];
  stands = starts_nothing;
  cut = cut_starts;
}

-- a take of one byte
pub one_byte : (n : ℕ) (into : List ℕ) → n ≤ 1 → n ≢ 0 → length into ≡ 1 → take n into ≡ get_or into 0 0 ∷ []
one_byte zero into within some one = absurd (some refl)
one_byte (suc zero) (b ∷ into) within some one = refl
one_byte (suc zero) [] within some one = absurd (omega (arith, one))
one_byte (suc (suc n)) into within some one = absurd (omega (arith, within))

-- a command has bytes
pub used_some : (used line : List ℕ) → ((rest : List ℕ) → commands (used ++ rest) ≡ line ∷ commands rest) → 0 < length used
used_some [] line first = absurd (cc (first []))
used_some (b ∷ used) line first = omega arith

-- a command was met, and there was no room for it
pub wanted_line : (told : Bool) (line : List ℕ) (old new : Reach) → length line ≤ most_command → MeetsLine told line old new → WantsMemory told old new
wanted_line told line old new short met =
    record { got = met.got; moved = met.gets.moved; within = omega (arith, met.gets.taken, met.gets.within); line = line; short = short; met = inl met }

pub wanted_last : (told : Bool) (line : List ℕ) (old new : Reach) → length line ≤ most_command → MeetsLast told line old new → WantsMemory told old new
wanted_last told line old new short met =
    record { got = met.got; moved = met.gets.moved; within = omega (arith, met.gets.taken, met.gets.within); line = line; short = short; met = inr met }
