use Rattle.std.proofs.Common.{◌≡◌, ◌∙◌, ℕ, ◌+◌, ◌≤◌, ◌⊎◌, inl, inr, Bool, true, false, List, [], ◌∷◌, ◌++◌, length, take, drop, get_or, ◌<◌, refl, sym, ap, subst, arith, append_assoc, append-nil}
use Rattle.std.specs.Prelude.{IsTrue, Result, Ok, Err, OnOk, IfErr}
use Rattle.std.specs.List.{AllByRecursion}
use Rattle.std.proofs.lemmas.List.{length-map, take-append-drop, take_more, take_all}
use Rattle.dali_entry.specs.EntryRecord.{EntryRecord}
use Rattle.dali_journal.specs.Appends.{AtRest}
use Rattle.dali_line.specs.Commands.{commands}
use Rattle.dali_line.specs.Line.{MOST_OF_COMMAND, is_line}
use Rattle.dali_line.specs.Lines.{Reader, Gives, Ends, Stops, reached}
use Rattle.dali_line.specs.declared.line_end.LineEnd.{LineEnd}
use Rattle.dali_line.specs.declared.line_end.LineEnd.TheVariants as stop
use Rattle.dali_machine.specs.History.{AreNext, HasItsChoice, state_of}
use Rattle.dali_machine.specs.Machine.{Machine, opening}
use Rattle.dali_machine.specs.Step.{judged}
use Rattle.dali_outside.specs.Outside.{Feed, Sight, Goes, Rose}
use Rattle.dali_outside.specs.Stops.{LeavesOnly}
use Rattle.dali_recover.specs.Spells.{records_of}
use Rattle.dali_recover.proofs.Histories.{next_there}
use Rattle.dali_register.specs.Front.{IsFront}
use Rattle.dali_register.specs.Leaving.{LeavesDay}
use Rattle.dali_register.specs.Repeating.{Repeated}
use Rattle.dali_register.specs.TextOf.{text_of, lines_of}
use Rattle.dali_register.specs.declared.refusal.RegisterNo.{RegisterNo}
use Rattle.dali_register.specs.declared.refusal.RegisterNo.TheVariants as no
use Rattle.dali_register.proofs.Adding.{since_none}
use Rattle.dali_register.proofs.Texts.{next_first}
use Rattle.dali_day.specs.DayRun.{FaultsRose, TakesDay, PrintsDay, Because, IsNotFirst, DiffersAt, NextIsShort}
use Rattle.dali_day.specs.Ending.{end_of_input, end_of_register}
use Rattle.dali_day.specs.Reading.{Reads}
use Rattle.dali_day.specs.SoFar.{HasFound, ReplaysTo, EndsSo}
use Rattle.dali_day.specs.declared.end.DayEnd.{DayEnd}
use Rattle.dali_day.specs.declared.end.DayEnd.TheVariants.{Done, ReadFault, PrintFault, DiskFault, OtherDay, LongLine, LongFile, OutOfMemory}
use Rattle.dali_day.proofs.Inputs.{TakesWithin, takes_front, at_print_fault, at_other_day, at_want, takes_stopped, takes_end, takes_over, takes_line, all_taken, within_end}
use Rattle.dali_day.proofs.InputEnds.{line_short}
use Rattle.dali_day.proofs.Lines.{lines_short, lines_more}
use Rattle.dali_day.proofs.ReadingOn.{reads_line}
use Rattle.dali_day.proofs.Syncs.{few_syncs}

-- A day that ends while the found entries are gone over again, with those done before.
pub ends_again : (s t : Bool) (old new : Feed) (before then : Sight) (found done : List EntryRecord) (tail edition : ℕ) (end : DayEnd) → HasFound t before edition found → IsFront done found →
    FaultsRose old new before then end → (IsTrue s → TakesDay old new (lines_of done) end) → (IsTrue t → PrintsDay end (text_of done) (text_of found) before then) →
    (IsTrue t → AtRest tail edition (records_of found) then) → (IsTrue t → LeavesOnly (LeavesDay before found found) before then) → (IsTrue t → then.bytes ≡ before.bytes) → then.syncs ≤ before.syncs + 1 →
    Because s t old before then found found done edition end → EndsSo s t old new before then end
ends_again s t old new before then found done tail edition end has front counts input text rest stops unwritten syncs because = record {
  counts = counts;
  opened = record {
    found = found;
    all = found;
    done = done;
    edition = edition;
    spelled = has.spelled;
    header = has.header;
    entries = record { legal = has.legal.entries; held = has.held; reported = has.reported; added = since_none edition found };
    far = inl (refl, front);
    input = input;
    text = text;
    rest = λ told _. record { tail = tail; rest = rest told };
    stops = stops;
    behind = inr unwritten;
    syncs = λ _. few_syncs before found found [] then (sym (append-nil found))
        (record { full = 0; others = 0; each = omega arith; few = omega arith; syncs = omega (arith, syncs) });
    because = because;
  };
}

-- The next of the found entries.
module _ (s t : Bool) (old : Feed) (before : Sight) (found done todo : List EntryRecord) (e : EntryRecord) (tail edition : ℕ) (reader new : Reader) (machine : Machine) (feed after : Feed) (sight : Sight)
    (parts : found ≡ done ++ e ∷ todo) (has : HasFound t before edition found) (to : ReplaysTo s t old before found done tail edition reader machine feed sight) (faults : feed.faults ≤ after.faults) where
  front : IsFront done found
  front = record { rest = e ∷ todo; parts = parts }

  legal : AreNext opening 0 (done ++ e ∷ todo)
  legal = subst (AreNext opening 0) parts has.legal.entries

  short : AllByRecursion (λ line. length line ≤ MOST_OF_COMMAND) (lines_of done)
  short = lines_short opening 0 done (next_first opening 0 done (e ∷ todo) legal)

  -- it has the choice that its line asks for
  pub kept_choice : HasItsChoice machine (judged e.edition machine e.line) e.choice
  kept_choice = subst (λ m. HasItsChoice m (judged e.edition m e.line) e.choice) (sym to.machine_is) (next_there opening 0 done e todo legal).choice

  -- the file can't be read on
  pub again_stopped : (end : LineEnd) → reader.over ≡ false → Stops s (reader.given + 1) (reached reader feed) (reached new after) end → (end ≡ stop.ReadFault → Rose feed.faults after.faults) →
      EndsSo s t old after before sight (end_of_input end)
  again_stopped stop.ReadFault running stops rose =
      ends_again s t old after before sight found done tail edition ReadFault has front
      (record { read = λ _. omega (arith, rose refl, to.faults); print = λ is. absurd (Prim.cc); disk = λ is. absurd (Prim.cc); faults = omega (arith, to.faults, faults); goes = to.repeats.goes })
      (takes_stopped s old (lines_of done) reader new feed after to.reads running short stop.ReadFault stops) to.repeats.text to.repeats.rest to.repeats.stops to.unwritten to.syncs tt
  again_stopped (stop.LongLine k) running stops rose =
      ends_again s t old after before sight found done tail edition (LongLine k) has front
      (record { read = λ is. absurd (Prim.cc); print = λ is. absurd (Prim.cc); disk = λ is. absurd (Prim.cc); faults = omega (arith, to.faults, faults); goes = to.repeats.goes })
      (takes_stopped s old (lines_of done) reader new feed after to.reads running short (stop.LongLine k) stops) to.repeats.text to.repeats.rest to.repeats.stops to.unwritten to.syncs tt
  again_stopped stop.LongFile running stops rose =
      ends_again s t old after before sight found done tail edition LongFile has front
      (record { read = λ is. absurd (Prim.cc); print = λ is. absurd (Prim.cc); disk = λ is. absurd (Prim.cc); faults = omega (arith, to.faults, faults); goes = to.repeats.goes })
      (takes_stopped s old (lines_of done) reader new feed after to.reads running short stop.LongFile stops) to.repeats.text to.repeats.rest to.repeats.stops to.unwritten to.syncs tt
  again_stopped stop.OutOfMemory running stops rose =
      ends_again s t old after before sight found done tail edition OutOfMemory has front
      (record { read = λ is. absurd (Prim.cc); print = λ is. absurd (Prim.cc); disk = λ is. absurd (Prim.cc); faults = omega (arith, to.faults, faults); goes = to.repeats.goes })
      (takes_stopped s old (lines_of done) reader new feed after to.reads running short stop.OutOfMemory stops) to.repeats.text to.repeats.rest to.repeats.stops to.unwritten to.syncs tt

  -- the file goes on with another line, or ends
  other_day : (k : ℕ) → k ≡ length done + 1 → (IsTrue s → DiffersAt e.line (lines_of done) (commands old.left)) → (IsTrue s → NextIsShort (lines_of done) (commands old.left)) →
      (IsTrue s → TakesWithin old after (lines_of done)) →
      EndsSo s t old after before sight (OtherDay k)
  other_day k number differs short_next takes =
      ends_again s t old after before sight found done tail edition (OtherDay k) has front
      (record { read = λ is. absurd (Prim.cc); print = λ is. absurd (Prim.cc); disk = λ is. absurd (Prim.cc); faults = omega (arith, to.faults, faults); goes = to.repeats.goes })
      (λ told. at_other_day k old after (lines_of done) (takes told)) to.repeats.text to.repeats.rest to.repeats.stops to.unwritten to.syncs
      (record { number = number; kept = e; behind = todo; parts = parts; differs = differs; short = short_next; unwritten = to.unwritten })

  pub other_line : (k : ℕ) (line : List ℕ) → k ≡ length done + 1 → reader.over ≡ false → Gives s line reader new feed after → (line ≡ e.line → ⊥) → IsTrue (is_line line) → EndsSo s t old after before sight (OtherDay k)
  other_line k line number running gives other is =
      let takes : IsTrue s → TakesWithin old after (lines_of done ++ line ∷ []) = takes_line s old (lines_of done) reader new feed after to.reads running line gives in
      other_day k number
      (λ told. record {
        rest = line ∷ (takes told).first.rest;
        parts = (takes told).first.parts ∙ append_assoc (lines_of done) (line ∷ []) (takes told).first.rest;
        other = other;
      })
      (λ told. record {
        rest = line ∷ (takes told).first.rest;
        parts = (takes told).first.parts ∙ append_assoc (lines_of done) (line ∷ []) (takes told).first.rest;
        short = λ long. let few = line_short line is in omega (arith, long, few);
      })
      (λ told. takes_front old after (lines_of done) (lines_of done ++ line ∷ []) (record { rest = line ∷ []; parts = refl }) (takes told))

  pub no_line : (k : ℕ) → k ≡ length done + 1 → (reader.over ≡ true → (new ≡ reader) × (after ≡ feed)) → (reader.over ≡ false → Ends s reader new feed after) → EndsSo s t old after before sight (OtherDay k)
  no_line k number over ends =
      let takes : IsTrue s → TakesDay old after (lines_of done) Done = (λ told.
      elim (reader.over) as (λ b. reader.over ≡ b → TakesDay old after (lines_of done) Done) [
        | true ↦ λ is. subst (λ f. TakesDay old f (lines_of done) Done) (sym (over is).1) (takes_over s old (lines_of done) reader new feed after to.reads is told)
        | false ↦ λ is. takes_end s old (lines_of done) reader new feed after to.reads is (ends is) told
      ] refl) in
      other_day k number
      (λ told. record { rest = []; parts = all_taken old after (lines_of done) (takes told) ∙ sym (append-nil (lines_of done)); other = tt })
      (λ told. record { rest = []; parts = all_taken old after (lines_of done) (takes told) ∙ sym (append-nil (lines_of done)); short = λ long. long })
      (λ told. within_end old after (lines_of done) (takes told))

  -- the number of the command that is taken next
  pub next_number : (n : ℕ) → n ≡ reader.given → n + 1 ≡ length done + 1
  next_number n is = omega (arith, is, to.reads.count, length-map done (λ (x : EntryRecord). x.line))

  -- its line was taken, and its reply printed again or not
  module _ (running : reader.over ≡ false) (gives : Gives s e.line reader new feed after) (next : Machine) (then : Sight) (bytes : IsTrue t → then.bytes ≡ sight.bytes) (syncs : then.syncs ≤ sight.syncs) where
    takes : IsTrue s → TakesWithin old after (lines_of done)
    takes told = takes_front old after (lines_of done) (lines_of done ++ e.line ∷ []) (record { rest = e.line ∷ []; parts = refl })
        (takes_line s old (lines_of done) reader new feed after to.reads running e.line gives told)

    pub again_one : (result : Result Unit RegisterNo) → Repeated t before found done e tail edition next sight then result →
        OnOk result (ReplaysTo s t old before found (done ++ e ∷ []) tail edition new next after then)
    again_one (Ok u) more = record {
      repeats = more.repeats;
      machine_is = more.machine_is;
      reads = subst (λ ls. Reads s old ls new after) (sym (lines_more done e)) (reads_line s old (lines_of done) reader new feed after e.line to.reads running gives);
      faults = omega (arith, to.faults, faults);
      unwritten = λ told. bytes told ∙ to.unwritten told;
      syncs = omega (arith, syncs, to.syncs);
    }
    again_one (Err e) more = tt

    pub again_ends : (result : Result Unit RegisterNo) → Repeated t before found done e tail edition next sight then result → IfErr result (λ n. EndsSo s t old after before then (end_of_register n))
    again_ends (Ok u) more = tt
    again_ends (Err no.DiskFault) more = absurd more
    again_ends (Err no.PrintFault) more =
        ends_again s t old after before then found done tail edition PrintFault has front
        (record { read = λ is. absurd (Prim.cc); print = λ _. omega (arith, more.rose, to.repeats.goes.print); disk = λ is. absurd (Prim.cc); faults = omega (arith, to.faults, faults); goes = more.goes })
        (λ told. at_print_fault old after (lines_of done) (takes told)) more.text more.rest more.stops (λ told. bytes told ∙ to.unwritten told) (omega (arith, syncs, to.syncs)) tt
    again_ends (Err (no.JournalFull need left)) more = absurd more
    again_ends (Err no.OutOfMemory) more =
        subst (λ x. EndsSo s t old after before x OutOfMemory) (sym more)
        (ends_again s t old after before sight found done tail edition OutOfMemory has front
        (record { read = λ is. absurd (Prim.cc); print = λ is. absurd (Prim.cc); disk = λ is. absurd (Prim.cc); faults = omega (arith, to.faults, faults); goes = to.repeats.goes })
        (λ told. at_want old after (lines_of done) (at_print_fault old after (lines_of done) (takes told))) to.repeats.text to.repeats.rest to.repeats.stops to.unwritten to.syncs tt)

-- the found entries, cut before one of them
pub cut_at : (entries : List EntryRecord) (i : ℕ) (e : EntryRecord) → i < length entries → e ≡ get_or entries i e → entries ≡ take i entries ++ e ∷ drop (i + 1) entries
cut_at entries i e within is = sym (take-append-drop (i + 1) entries)
    ∙ ap (λ xs. xs ++ drop (i + 1) entries) (take_more entries i e within ∙ ap (λ x. take i entries ++ x ∷ []) (sym is))
    ∙ append_assoc (take i entries) (e ∷ []) (drop (i + 1) entries)

pub cut_more : (entries : List EntryRecord) (i : ℕ) (e : EntryRecord) → i < length entries → e ≡ get_or entries i e → take i entries ++ e ∷ [] ≡ take (i + 1) entries
cut_more entries i e within is = sym (take_more entries i e within ∙ ap (λ x. take i entries ++ x ∷ []) (sym is))

-- nothing was taken in the first state
pub none_gone : (m : Machine) (given : ℕ) → m ≡ opening → given ≡ 0 → m.commands ≡ given
none_gone m given first zero_given = ap (λ (x : Machine). x.commands) first ∙ sym zero_given
