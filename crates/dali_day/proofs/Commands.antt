use Rattle.std.proofs.Common.{◌≡◌, ◌∙◌, ℕ, ◌+◌, ◌≤◌, ◌⊎◌, inl, inr, Bool, true, false, List, [], ◌∷◌, ◌++◌, length, refl, sym, ap, subst, arith, append_assoc, append-nil}
use Rattle.std.specs.Prelude.{IsTrue, Result, Ok, Err, OnOk, IfErr}
use Rattle.std.specs.List.{AllByRecursion}
use Rattle.dali_entry.specs.EntryRecord.{EntryRecord}
use Rattle.dali_journal.specs.Frames.{frames_length}
use Rattle.dali_journal.specs.Holds.{HoldsAt, StandsTo}
use Rattle.dali_line.specs.Commands.{commands}
use Rattle.dali_line.specs.Line.{MOST_OF_COMMAND}
use Rattle.dali_line.specs.Lines.{Reader, Gives, Ends, Stops, reached}
use Rattle.dali_line.specs.declared.line_end.LineEnd.{LineEnd}
use Rattle.dali_line.specs.declared.line_end.LineEnd.TheVariants as stop
use Rattle.dali_machine.specs.Machine.{opening}
use Rattle.dali_outside.specs.Outside.{Feed, Sight, Goes, Rose}
use Rattle.dali_recover.specs.Spells.{records_of}
use Rattle.dali_recover.proofs.Fronts.{tail_is}
use Rattle.dali_register.specs.Front.{IsFront}
use Rattle.dali_register.specs.Standing.{Stands, Spends}
use Rattle.dali_register.specs.Taking.{Took, TakesEntry, Breaks, Mumbles, FillsUp, WantsMemory}
use Rattle.dali_register.specs.TextOf.{text_of, lines_of}
use Rattle.dali_register.specs.declared.refusal.RegisterNo.{RegisterNo}
use Rattle.dali_register.specs.declared.refusal.RegisterNo.TheVariants as no
use Rattle.dali_register.specs.declared.register.Register.{Register}
use Rattle.dali_register.proofs.Texts.{lines_append}
use Rattle.dali_day.specs.DayRun.{FaultsRose, TakesDay, FitsNot}
use Rattle.dali_day.specs.Ending.{end_of_input, end_of_register}
use Rattle.dali_day.specs.Reading.{Reads}
use Rattle.dali_day.specs.SoFar.{HasFound, GoesTo, GoesOnTo, Finishes, EndsInput, EndsSo}
use Rattle.dali_day.specs.declared.end.DayEnd.{DayEnd}
use Rattle.dali_day.specs.declared.end.DayEnd.TheVariants.{Done, ReadFault, PrintFault, JournalFull, OutOfMemory}
use Rattle.dali_day.proofs.Closing.{ends_whole, ends_given_up, ends_in_part}
use Rattle.dali_day.proofs.Inputs.{TakesWithin, takes_front, at_print_fault, at_full, at_want, takes_stopped, within_stopped, takes_end, takes_over, takes_line, within_end}
use Rattle.dali_day.proofs.Lines.{lines_short, lines_more}
use Rattle.dali_day.proofs.ReadingOn.{reads_line}

ends_input : (end : LineEnd) → EndsInput (end_of_input end)
ends_input stop.ReadFault = tt
ends_input (stop.LongLine k) = tt
ends_input stop.LongFile = tt
ends_input stop.OutOfMemory = tt

read_only : (end : LineEnd) → end_of_input end ≡ ReadFault → end ≡ stop.ReadFault
read_only stop.ReadFault is = refl
read_only (stop.LongLine k) is = absurd (Prim.cc)
read_only stop.LongFile is = absurd (Prim.cc)
read_only stop.OutOfMemory is = absurd (Prim.cc)

-- the room left behind the records of these entries
left_behind : (tail edition left size : ℕ) (entries : List EntryRecord) (bytes : List ℕ) → HoldsAt tail edition (records_of entries) bytes → tail + left ≡ size →
    left + (16 + frames_length (records_of entries)) ≡ size
left_behind tail edition left size entries bytes holds whole =
    omega (
      arith,
      whole,
      tail_is tail edition (records_of entries) bytes (record {
        header = holds.header;
        is_header = holds.is_header;
        body = holds.body;
        records = holds.records;
        rest = 0 ∷ holds.free;
        place = holds.place;
        whole = holds.whole;
      }),
    )

-- What the next line comes to.
module _ (s t : Bool) (old : Feed) (before : Sight) (found added held : List EntryRecord) (reader new : Reader) (r : Register) (feed last : Feed) (sight : Sight)
    (has : HasFound t before r.journal.edition found) (to : GoesTo s t old before found added held reader r feed sight) (faults : feed.faults ≤ last.faults) where
  abbrev known : List EntryRecord
  known = (found ++ added) ++ held

  short : AllByRecursion (λ line. length line ≤ MOST_OF_COMMAND) (lines_of known)
  short = lines_short opening 0 known to.so_far.stands.entries.legal

  behind : known ≡ found ++ (added ++ held)
  behind = append_assoc found added held

  -- the reader of lines stopped
  pub stopped : (end : LineEnd) → reader.over ≡ false → Stops s (reader.given + 1) (reached reader feed) (reached new last) end → (end ≡ stop.ReadFault → Rose feed.faults last.faults) →
      Finishes s t old last before found added held r sight (end_of_input end)
  stopped end running stops rose = record {
    has = has;
    so_far = to.so_far;
    ends = ends_input end;
    takes = takes_stopped s old (lines_of known) reader new feed last to.reads running short end stops;
    within = within_stopped s old (lines_of known) reader new feed last to.reads running end stops;
    read = λ is. omega (arith, rose (read_only end is), to.faults);
    faults = omega (arith, to.faults, faults);
  }

  -- the end of input was met
  pub over_now : (reader.over ≡ true → (new ≡ reader) × (last ≡ feed)) → (reader.over ≡ false → Ends s reader new feed last) → Finishes s t old last before found added held r sight Done
  over_now over ends =
      let takes : IsTrue s → TakesDay old last (lines_of known) Done = (λ told.
      elim (reader.over) as (λ b. reader.over ≡ b → TakesDay old last (lines_of known) Done) [
        | true ↦ λ is. subst (λ f. TakesDay old f (lines_of known) Done) (sym (over is).1) (takes_over s old (lines_of known) reader new feed last to.reads is told)
        | false ↦ λ is. takes_end s old (lines_of known) reader new feed last to.reads is (ends is) told
      ] refl) in
      record {
        has = has;
        so_far = to.so_far;
        ends = tt;
        takes = takes;
        within = λ told. at_print_fault old last (lines_of known) (within_end old last (lines_of known) (takes told));
        read = λ is. absurd (Prim.cc);
        faults = omega (arith, to.faults, faults);
      }

  -- a line was given to the register
  module _ (line : List ℕ) (running : reader.over ≡ false) (gives : Gives s line reader new feed last) (after : Register) (then : Sight) (edition : after.journal.edition ≡ r.journal.edition) where
    has_too : HasFound t before after.journal.edition found
    has_too = subst (λ x. HasFound t before x found) (sym edition) has

    takes : IsTrue s → TakesWithin old last (lines_of known ++ line ∷ [])
    takes = takes_line s old (lines_of known) reader new feed last to.reads running line gives

    -- the lines of all that were known, and of some of this line
    takes_more : (more : List EntryRecord) → IsFront (lines_of more) (line ∷ []) → IsTrue s → TakesDay old last (lines_of (known ++ more)) PrintFault
    takes_more more front told = subst (λ ls. TakesDay old last ls PrintFault) (sym (lines_append known more))
        (at_print_fault old last (lines_of known ++ lines_of more) (takes_front old last (lines_of known ++ lines_of more) (lines_of known ++ line ∷ [])
        (record { rest = front.rest; parts = ap (λ xs. lines_of known ++ xs) front.parts ∙ sym (append_assoc (lines_of known) (lines_of more) front.rest) }) (takes told)))

    takes_known : IsTrue s → TakesWithin old last (lines_of (found ++ (added ++ held)))
    takes_known told = subst (λ xs. TakesWithin old last (lines_of xs)) behind
        (takes_front old last (lines_of known) (lines_of known ++ line ∷ []) (record { rest = line ∷ []; parts = refl }) (takes told))

    pub took_on : (result : Result Unit RegisterNo) → Took t before found (added ++ held) line after sight then result → OnOk result (GoesOnTo s t old before found new after last then)
    took_on (Ok u) took =
        let whole : (found ++ took.added) ++ took.held ≡ known ++ took.entry ∷ [] =
        append_assoc found took.added took.held ∙ ap (λ xs. found ++ xs) took.whole ∙ sym (append_assoc found (added ++ held) (took.entry ∷ [])) ∙ ap (λ xs. xs ++ took.entry ∷ []) (sym behind) in
        record {
          added = took.added;
          held = took.held;
          to = record {
            so_far = took.so_far;
            reads = subst (λ ls. Reads s old ls new last)
                (sym (ap lines_of whole ∙ lines_more known took.entry ∙ ap (λ l. lines_of known ++ l ∷ []) took.line_is))
                (reads_line s old (lines_of known) reader new feed last line to.reads running gives);
            faults = omega (arith, to.faults, faults);
          };
        }
    took_on (Err e) took = tt

    full_counts : (need left : ℕ) → Goes before then → FaultsRose old last before then (JournalFull need left)
    full_counts need left goes = record { read = λ is. absurd (Prim.cc); print = λ is. absurd (Prim.cc); disk = λ is. absurd (Prim.cc); faults = omega (arith, to.faults, faults); goes = goes }

    took_full : (need left : ℕ) → FillsUp t before found (added ++ held) line need left after then → EndsSo s t old last before then (JournalFull need left)
    took_full need left fills =
        ends_whole s t old last before found (added ++ held) after then (JournalFull need left) has_too fills.stands fills.spends (full_counts need left fills.stands.kept.goes)
        (λ told. at_full need left old last (lines_of (found ++ (added ++ held))) (takes_known told)) fills.stands.kept.text (
          refl,
          record {
            entry = fills.entry;
            edition_is = fills.edition_is;
            next = fills.next;
            command = λ told. record {
              rest = (takes told).first.rest;
              parts = (takes told).first.parts ∙ ap (λ xs. (lines_of xs ++ line ∷ []) ++ (takes told).first.rest) behind
                  ∙ ap (λ l. (lines_of (found ++ (added ++ held)) ++ l ∷ []) ++ (takes told).first.rest) (sym fills.line_is);
            };
            need_is = fills.need_is;
            left_is = λ told. left_behind after.journal.tail after.journal.edition left before.size (found ++ (added ++ held)) then.bytes (fills.stands.kept.rest told).holds
                (omega (arith, fills.left_is, fills.stands.at_site.size, fills.stands.kept.goes.same_size));
            short = fills.short;
          },
        )

    took_wanting : WantsMemory t before found (added ++ held) after then → EndsSo s t old last before then OutOfMemory
    took_wanting wants =
        ends_whole s t old last before found (added ++ held) after then OutOfMemory has_too wants.stands wants.spends
        (record { read = λ is. absurd (Prim.cc); print = λ is. absurd (Prim.cc); disk = λ is. absurd (Prim.cc); faults = omega (arith, to.faults, faults); goes = wants.stands.kept.goes })
        (λ told. at_want old last (lines_of (found ++ (added ++ held))) (at_print_fault old last (lines_of (found ++ (added ++ held))) (takes_known told))) wants.stands.kept.text tt

    pub took_ends : (result : Result Unit RegisterNo) → Took t before found (added ++ held) line after sight then result → IfErr result (λ n. EndsSo s t old last before then (end_of_register n))
    took_ends (Ok u) took = tt
    took_ends (Err no.DiskFault) took =
        ends_given_up s t old last before found ((found ++ (added ++ held)) ++ took.more) after.journal.edition sight then has_too took.gives_up to.so_far.stands.kept.goes (omega (arith, to.faults, faults))
        (λ told. subst (λ xs. TakesDay old last (lines_of (xs ++ took.more)) PrintFault) behind (takes_more took.more took.lines told))
    took_ends (Err no.PrintFault) took =
        ends_in_part s t old last before found ((added ++ held) ++ took.more) after.journal.tail after.journal.edition sight then has_too took.in_part took.spends to.so_far.stands.kept.goes
        (omega (arith, to.faults, faults))
        (λ told. subst (λ xs. TakesDay old last (lines_of xs) PrintFault) (ap (λ xs. xs ++ took.more) behind ∙ append_assoc found (added ++ held) took.more) (takes_more took.more took.lines told))
    took_ends (Err (no.JournalFull need left)) took = took_full need left took
    took_ends (Err no.OutOfMemory) took = took_wanting took
