use Rattle.std.proofs.Common.{◌≡◌, ◌∙◌, ℕ, zero, suc, ◌+◌, ◌-◌, ◌≤◌, ◌<◌, ◌⊎◌, inl, inr, Bool, true, false, List, [], ◌∷◌, ◌++◌, length, drop, refl, sym, ap, subst, arith, append_assoc, append-nil, length-append}
use Rattle.std.specs.Prelude.{IsTrue, ◌&&◌, nat_le}
use Rattle.std.specs.List.{All, AllByRecursion}
use Rattle.std.proofs.lemmas.Bool.Decides.{nat_tests}
use Rattle.std.proofs.lemmas.List.Elements.{recursion_from_All}
use Rattle.dali_outside.specs.Outside.{Feed}
use Rattle.dali_line.specs.Line.{MOST_OF_COMMAND, is_line}
use Rattle.dali_line.specs.Commands.{commands, ended_commands}
use Rattle.dali_line.specs.Lines.{Reader, FirstIsLong, IsLong, MOST_OF_FILE, BreaksOff, FindsLong, PassesLimit, WantsMemory, reached}
use Rattle.dali_day.specs.Taken.{IsLongAt, ShowsLong, ShowsNoLong, BreaksAfter, LongAfter, PastLimit, StopsWithin}
use Rattle.dali_day.specs.Reading.{GoesOn, Reads}
use Rattle.dali_day.proofs.ReadingOn.{going}
use Rattle.dali_day.proofs.Long.{IsBehind, behind, at_next, none_past_one, one_command_more, one_command_after}

second_test : (a b c : Bool) → ((a && b) && c) ≡ true → b ≡ true
second_test true true c h = refl
second_test true false c h = h
second_test false b c h = absurd (Prim.cc)

pub line_short : (line : List ℕ) → IsTrue (is_line line) → length line ≤ MOST_OF_COMMAND
line_short line is = let test : nat_le (length line) 200 ≡ true = second_test _ (nat_le (length line) 200) _ is in grind (arith, nat_tests)

shorts : (lines : List (List ℕ)) → AllByRecursion (λ line. IsTrue (is_line line)) lines → AllByRecursion (λ line. length line ≤ MOST_OF_COMMAND) lines
shorts [] are = tt
shorts (line ∷ lines) are = (line_short line are.0, shorts lines are.1)

pub all_short : (lines : List (List ℕ)) → All (λ line. IsTrue (is_line line)) lines → AllByRecursion (λ line. length line ≤ MOST_OF_COMMAND) lines
all_short lines are = shorts lines (recursion_from_All (λ line. IsTrue (is_line line)) lines are)

-- the commands of the bytes got, of more bytes and of what follows
cut_more : (got : List ℕ) (given : List (List ℕ)) (pending more rest : List ℕ) → GoesOn got given pending → commands ((got ++ more) ++ rest) ≡ given ++ commands ((pending ++ more) ++ rest)
cut_more got given pending more rest on =
    ap commands (append_assoc got more rest) ∙ on.whole (more ++ rest) ∙ ap (λ xs. given ++ commands xs) (sym (append_assoc pending more rest))

-- where the bytes that are pending give one command at most, and it isn't long, no command is long
none_is_long : (got : List ℕ) (given : List (List ℕ)) (pending more : List ℕ) → GoesOn got given pending → AllByRecursion (λ line. length line ≤ MOST_OF_COMMAND) given →
    length (commands ((pending ++ more) ++ [])) ≤ 1 → ¬ (IsLong (pending ++ more)) → ShowsNoLong (got ++ more)
none_is_long got given pending more on short few fine k shown =
    let here : IsBehind (k - 1) given (commands ((pending ++ more) ++ [])) =
    behind given (commands ((pending ++ more) ++ [])) (k - 1) short (subst (λ cs. FirstIsLong (drop (k - 1) cs)) (cut_more got given pending more [] on) (shown []).long) in
    elim (here.at) as (λ j. here.at ≡ j → ⊥) [
      | zero ↦ λ is. fine (λ rest.
          let there : IsBehind (k - 1) given (commands ((pending ++ more) ++ rest)) =
          behind given (commands ((pending ++ more) ++ rest)) (k - 1) short (subst (λ cs. FirstIsLong (drop (k - 1) cs)) (cut_more got given pending more rest on) (shown rest).long) in
          let first : there.at ≡ zero = omega (arith, here.place, there.place, is) in
          subst (λ j. FirstIsLong (drop j (commands ((pending ++ more) ++ rest)))) first there.long)
      | suc j ↦ λ is. none_past_one (commands ((pending ++ more) ++ [])) j few (subst (λ i. FirstIsLong (drop i (commands ((pending ++ more) ++ [])))) is here.long)
    ] refl

-- a take failed
pub broken_off : (told : Bool) (old : Feed) (given : List (List ℕ)) (reader new : Reader) (feed after : Feed) → (reads : Reads told old given reader feed) → reader.over ≡ false →
    AllByRecursion (λ line. length line ≤ MOST_OF_COMMAND) given → (stop : BreaksOff told (reached reader feed) (reached new after)) → BreaksAfter (reads.got ++ stop.got) given
broken_off told old given reader new feed after reads running short stop =
    let on = going told old given reader feed reads running in
    record {
      limit = omega (arith, reads.taken, stop.gets.taken, stop.gets.within, length-append reads.got stop.got);
      whole = sym (on.ended stop.got ∙ ap (λ cs. given ++ cs) stop.none_ended ∙ append-nil given);
      none_long = none_is_long reads.got given reader.pending stop.got on short
          (subst (λ xs. length (commands xs) ≤ 1) (sym (append-nil (reader.pending ++ stop.got)))
          (omega (arith, one_command_more (reader.pending ++ stop.got), ap length stop.none_ended))) stop.none_long;
    }

-- a byte past the limit was taken
pub past_limit : (told : Bool) (old : Feed) (given : List (List ℕ)) (reader new : Reader) (feed after : Feed) → (reads : Reads told old given reader feed) → reader.over ≡ false →
    AllByRecursion (λ line. length line ≤ MOST_OF_COMMAND) given → (stop : PassesLimit told (reached reader feed) (reached new after)) → PastLimit (reads.got ++ (stop.got ++ stop.past ∷ [])) given
past_limit told old given reader new feed after reads running short stop =
    let on = going told old given reader feed reads running in
    record {
      within = reads.got ++ stop.got;
      past = stop.past;
      parts = sym (append_assoc reads.got stop.got (stop.past ∷ []));
      limit = omega (arith, reads.taken, stop.limit, length-append reads.got stop.got);
      whole = sym (on.ended stop.got ∙ ap (λ cs. given ++ cs) stop.none_ended ∙ append-nil given);
      none_long = none_is_long reads.got given reader.pending (stop.got ++ stop.past ∷ []) on short
          (subst (λ xs. length (commands xs) ≤ 1) (sym (append-nil (reader.pending ++ (stop.got ++ stop.past ∷ [])) ∙ sym (append_assoc reader.pending stop.got (stop.past ∷ []))))
          (omega (arith, one_command_after (reader.pending ++ stop.got) stop.past, ap length stop.none_ended))) stop.none_long;
    }

-- a command is long
pub found_long : (told : Bool) (old : Feed) (given : List (List ℕ)) (reader new : Reader) (feed after : Feed) → (reads : Reads told old given reader feed) → reader.over ≡ false →
    IsTrue told → (stop : FindsLong told (reached reader feed) (reached new after)) → LongAfter (reader.given + 1) (reads.got ++ stop.got) after.left given
found_long told old given reader new feed after reads running t stop =
    let on = going told old given reader feed reads running in
    let place : length given ≡ (reader.given + 1) - 1 = omega (arith, reads.count) in
    let long_in : (rest : List ℕ) → FirstIsLong (commands ((reader.pending ++ stop.got) ++ rest)) → IsLongAt (reader.given + 1) (commands ((reads.got ++ stop.got) ++ rest)) =
    λ rest long. record {
      counted = omega arith;
      long = subst (λ i. FirstIsLong (drop i (commands ((reads.got ++ stop.got) ++ rest)))) place
          (subst (λ cs. FirstIsLong (drop (length given) cs)) (sym (cut_more reads.got given reader.pending stop.got rest on))
          (at_next given (commands ((reader.pending ++ stop.got) ++ rest)) long));
    } in
    record {
      next = omega (arith, reads.count);
      limit = omega (arith, reads.taken, stop.within, length-append reads.got stop.got);
      long = elim stop.long [
        | inl whatever ↦ inl (λ rest. long_in rest (whatever rest))
        | inr at_end ↦ inr (record {
          long = subst (λ xs. IsLongAt (reader.given + 1) (commands xs)) (append-nil (reads.got ++ stop.got))
              (long_in [] (subst (λ xs. FirstIsLong (commands xs)) (sym (append-nil (reader.pending ++ stop.got))) at_end.long));
          limit = omega (arith, reads.taken, at_end.within, length-append reads.got stop.got);
          end = at_end.end t;
        })
      ];
    }

-- memory was wanted for the next command
pub wants_memory : (told : Bool) (old : Feed) (given : List (List ℕ)) (reader new : Reader) (feed after : Feed) → (reads : Reads told old given reader feed) → reader.over ≡ false →
    (stop : WantsMemory told (reached reader feed) (reached new after)) → StopsWithin (reads.got ++ stop.got) given
wants_memory told old given reader new feed after reads running stop =
    let on = going told old given reader feed reads running in
    record {
      limit = omega (arith, reads.taken, stop.within, length-append reads.got stop.got);
      first = record { rest = commands (reader.pending ++ stop.got); parts = on.whole stop.got };
    }
