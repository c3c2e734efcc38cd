use Rattle.std.proofs.Common.{◌≡◌, ◌∙◌, ℕ, ◌+◌, ◌-◌, ◌≤◌, ◌<◌, ◌⊎◌, inl, inr, Bool, true, false, List, [], ◌∷◌, ◌++◌, length, drop, refl, sym, ap, subst, arith, append_assoc, append-nil, length-append}
use Rattle.std.specs.Prelude.{IsTrue}
use Rattle.dali_outside.specs.Outside.{Feed}
use Rattle.dali_line.specs.Commands.{commands, ended_commands}
use Rattle.dali_line.specs.Lines.{Reader, Gives, Ends, MeetsLine, MeetsLast, MeetsEnd, MOST_OF_FILE, reached}
use Rattle.dali_register.specs.Front.{IsFront}
use Rattle.dali_day.specs.Taken.{ReadsAll, StopsInLimit}
use Rattle.dali_day.specs.Reading.{GoesOn, IsOver, HasGiven, Reads}

-- a cut of the bytes got, of what is pending and of whatever follows, after one more line
step_on : (c : List ℕ → List (List ℕ)) (got : List ℕ) (given : List (List ℕ)) (pending more used left line rest : List ℕ) →
    ((r : List ℕ) → c (got ++ r) ≡ given ++ c (pending ++ r)) → pending ++ more ≡ used ++ left →
    ((r : List ℕ) → c (used ++ r) ≡ line ∷ c r) → c ((got ++ more) ++ rest) ≡ (given ++ line ∷ []) ++ c (left ++ rest)
step_on c got given pending more used left line rest whole parted first =
    ap c (append_assoc got more rest) ∙ whole (more ++ rest)
    ∙ ap (λ xs. given ++ c xs) (sym (append_assoc pending more rest) ∙ ap (λ xs. xs ++ rest) parted ∙ append_assoc used left rest)
    ∙ ap (λ cs. given ++ cs) (first (left ++ rest))
    ∙ sym (append_assoc given (line ∷ []) (c (left ++ rest)))

-- where nothing follows
pub at_end : (c : List ℕ → List (List ℕ)) (got : List ℕ) (given : List (List ℕ)) (pending more : List ℕ) →
    ((r : List ℕ) → c (got ++ r) ≡ given ++ c (pending ++ r)) → c (got ++ more) ≡ given ++ c (pending ++ more)
at_end c got given pending more whole = whole more

pub goes_on_line : (got : List ℕ) (given : List (List ℕ)) (pending more used left line : List ℕ) → GoesOn got given pending → pending ++ more ≡ used ++ left →
    ((r : List ℕ) → commands (used ++ r) ≡ line ∷ commands r) → ((r : List ℕ) → ended_commands (used ++ r) ≡ line ∷ ended_commands r) →
    GoesOn (got ++ more) (given ++ line ∷ []) left
goes_on_line got given pending more used left line on parted first ended = record {
  whole = λ rest. step_on commands got given pending more used left line rest on.whole parted first;
  ended = λ rest. step_on ended_commands got given pending more used left line rest on.ended parted ended;
}

-- a reader that is not over goes on
pub going : (told : Bool) (old : Feed) (given : List (List ℕ)) (reader : Reader) (feed : Feed) → (reads : Reads told old given reader feed) → reader.over ≡ false → GoesOn reads.got given reader.pending
going told old given reader feed reads running = subst (λ b. HasGiven told b reads.got given reader.pending feed.left) running reads.far

-- a reader that is over is over
pub over : (told : Bool) (old : Feed) (given : List (List ℕ)) (reader : Reader) (feed : Feed) → (reads : Reads told old given reader feed) → reader.over ≡ true → IsOver told reads.got given feed.left
over told old given reader feed reads ended = subst (λ b. HasGiven told b reads.got given reader.pending feed.left) ended reads.far

pub moves_on : (old got mid more new : List ℕ) → old ≡ got ++ mid → mid ≡ more ++ new → old ≡ (got ++ more) ++ new
moves_on old got mid more new first second = first ∙ ap (λ xs. got ++ xs) second ∙ sym (append_assoc got more new)

pub reads_start : (told : Bool) (old : Feed) → Reads told old [] (record { pending = []; taken = 0; given = 0; over = false }) old
reads_start told old = record {
  count = refl;
  got = [];
  moved = λ t. refl;
  taken = refl;
  within = omega arith;
  far = record { whole = λ rest. refl; ended = λ rest. refl };
}

-- one more line was given
pub reads_line : (told : Bool) (old : Feed) (given : List (List ℕ)) (reader new : Reader) (feed after : Feed) (line : List ℕ) →
    Reads told old given reader feed → reader.over ≡ false → Gives told line reader new feed after → Reads told old (given ++ line ∷ []) new after
reads_line told old given reader new feed after line reads running gives =
    let on = going told old given reader feed reads running in
    let count : new.given ≡ length (given ++ line ∷ []) = omega (arith, gives.given, reads.count, length-append given (line ∷ [])) in
    elim gives.next [
      | inl next ↦ record {
        count = count;
        got = reads.got ++ next.1.got;
        moved = λ t. moves_on old.left reads.got feed.left next.1.got after.left (reads.moved t) (next.1.gets.moved t);
        taken = omega (arith, reads.taken, next.1.gets.taken, length-append reads.got next.1.got);
        within = next.1.gets.within;
        far = subst (λ b. HasGiven told b (reads.got ++ next.1.got) (given ++ line ∷ []) new.pending after.left) (sym next.0)
            (goes_on_line reads.got given reader.pending next.1.got next.1.used new.pending line on next.1.parted next.1.first next.1.ended);
      }
      | inr last ↦ record {
        count = count;
        got = reads.got ++ last.1.got;
        moved = λ t. moves_on old.left reads.got feed.left last.1.got after.left (reads.moved t) (last.1.gets.moved t);
        taken = omega (arith, reads.taken, last.1.gets.taken, length-append reads.got last.1.got);
        within = last.1.gets.within;
        far = subst (λ b. HasGiven told b (reads.got ++ last.1.got) (given ++ line ∷ []) new.pending after.left) (sym last.0)
            (record { whole = on.whole last.1.got ∙ ap (λ cs. given ++ cs) last.1.only; end = last.1.end });
      }
    ]

-- the lines given are the first commands of the input
pub reads_first : (told : Bool) (old : Feed) (given : List (List ℕ)) (reader : Reader) (feed : Feed) → Reads told old given reader feed → IsTrue told → IsFront given (commands old.left)
reads_first told old given reader feed reads t =
    elim (reader.over) as (λ b. reader.over ≡ b → IsFront given (commands old.left)) [
      | true ↦ λ is.
          let done = over told old given reader feed reads is in
          record { rest = []; parts = ap commands (reads.moved t ∙ ap (λ xs. reads.got ++ xs) (done.end t) ∙ append-nil reads.got) ∙ done.whole ∙ sym (append-nil given) }
      | false ↦ λ is.
          let on = going told old given reader feed reads is in
          record { rest = commands (reader.pending ++ feed.left); parts = ap commands (reads.moved t) ∙ on.whole feed.left }
    ] refl

-- the end of input, met now
pub all_read : (told : Bool) (old : Feed) (given : List (List ℕ)) (reader new : Reader) (feed after : Feed) → (reads : Reads told old given reader feed) → reader.over ≡ false →
    (ends : Ends told reader new feed after) → IsTrue told → ReadsAll (reads.got ++ ends.meets.got) after.left given
all_read told old given reader new feed after reads running ends t =
    let on = going told old given reader feed reads running in
    record {
      end = ends.meets.end t;
      limit = omega (arith, reads.taken, ends.meets.gets.taken, ends.meets.gets.within, length-append reads.got ends.meets.got);
      all = sym (on.whole ends.meets.got ∙ ap (λ cs. given ++ cs) ends.meets.none ∙ append-nil given);
    }

-- the end of input, met before
pub all_over : (told : Bool) (old : Feed) (given : List (List ℕ)) (reader : Reader) (feed : Feed) → (reads : Reads told old given reader feed) → reader.over ≡ true → IsTrue told → ReadsAll reads.got feed.left given
all_over told old given reader feed reads ended t =
    let done = over told old given reader feed reads ended in
    record { end = done.end t; limit = omega (arith, reads.taken, reads.within); all = sym done.whole }

-- the lines given are the first commands of the bytes got
pub reads_within : (told : Bool) (old : Feed) (given : List (List ℕ)) (reader : Reader) (feed : Feed) → (reads : Reads told old given reader feed) → StopsInLimit reads.got given
reads_within told old given reader feed reads = record {
  limit = omega (arith, reads.taken, reads.within);
  first = elim (reader.over) as (λ b. reader.over ≡ b → IsFront given (commands reads.got)) [
    | true ↦ λ is. record { rest = []; parts = (over told old given reader feed reads is).whole ∙ sym (append-nil given) }
    | false ↦ λ is. record {
      rest = commands (reader.pending ++ []);
      parts = ap commands (sym (append-nil reads.got)) ∙ (going told old given reader feed reads is).whole [];
    }
  ] refl;
}
