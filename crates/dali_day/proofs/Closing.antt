use Rattle.std.proofs.Common.{◌≡◌, ◌∙◌, ℕ, ◌+◌, ◌≤◌, ◌⊎◌, inl, inr, Bool, List, [], ◌∷◌, ◌++◌, length, refl, sym, ap, subst, arith, append_assoc, append-nil}
use Rattle.std.specs.Prelude.{IsTrue, Result, Ok, Err, IfErr}
use Rattle.dali_entry.specs.EntryRecord.{EntryRecord}
use Rattle.dali_line.specs.Commands.{commands}
use Rattle.dali_outside.specs.Outside.{Feed, Sight, Goes}
use Rattle.dali_outside.specs.Stops.{LeavesOnly}
use Rattle.dali_register.specs.Front.{IsFront}
use Rattle.dali_register.specs.Leaving.{LeavesDay}
use Rattle.dali_register.specs.Standing.{AreEntries, Stands, Spends}
use Rattle.dali_register.specs.Taking.{GivesUp, PrintsInPart, Flushed}
use Rattle.dali_register.specs.TextOf.{text_of, lines_of}
use Rattle.dali_register.specs.declared.refusal.RegisterNo.{RegisterNo}
use Rattle.dali_register.specs.declared.refusal.RegisterNo.TheVariants as no
use Rattle.dali_register.specs.declared.register.Register.{Register}
use Rattle.dali_register.proofs.Fronts.{front_within}
use Rattle.dali_register.proofs.Spending.{spends_other}
use Rattle.dali_day.specs.DayRun.{FaultsRose, TakesDay, PrintsDay, Because}
use Rattle.dali_day.specs.Ending.{end_of_register}
use Rattle.dali_day.specs.SoFar.{HasFound, Finishes, EndsInput, EndsSo}
use Rattle.dali_day.specs.declared.end.DayEnd.{DayEnd}
use Rattle.dali_day.specs.declared.end.DayEnd.TheVariants.{Done, ReadFault, PrintFault, DiskFault, Damaged, OtherDay, LongLine, LongFile, JournalFull, OutOfMemory}
use Rattle.dali_day.proofs.Inputs.{at_disk_fault}
use Rattle.dali_day.proofs.Lines.{lines_front}
use Rattle.dali_day.proofs.Syncs.{few_syncs}

-- the lines of the first entries come first where those of all do
found_front : (found all more : List EntryRecord) (file_commands : List (List ℕ)) → all ≡ found ++ more → IsFront (lines_of all) file_commands → IsFront (lines_of found) file_commands
found_front found all more file_commands parts first = front_within (lines_of found) (lines_of all) file_commands (lines_front found all (record { rest = more; parts = parts })) first

-- a day that ends with all entries firm and printed
pub ends_whole : (s t : Bool) (old new : Feed) (before : Sight) (found added : List EntryRecord) (r : Register) (then : Sight) (end : DayEnd) → HasFound t before r.journal.edition found →
    Stands t before found added [] r then → Spends 1 before added then → FaultsRose old new before then end → (IsTrue s → TakesDay old new (lines_of (found ++ added)) end) →
    (IsTrue t → PrintsDay end (text_of (found ++ added)) (text_of (found ++ added)) before then) → Because s t old before then found (found ++ added) (found ++ added) r.journal.edition end →
    EndsSo s t old new before then end
ends_whole s t old new before found added r then end has stands spends counts input text because = record {
  counts = counts;
  opened = record {
    found = found;
    all = found ++ added;
    done = found ++ added;
    edition = r.journal.edition;
    spelled = has.spelled;
    header = has.header;
    entries = subst (AreEntries r.journal.edition found) (append-nil (found ++ added)) stands.entries;
    far = inr refl;
    input = input;
    text = text;
    rest = λ told _. record { tail = r.journal.tail; rest = stands.kept.rest told };
    stops = stands.kept.stops;
    behind = inl (λ told. found_front found (found ++ added) added (commands old.left) refl (input told).first);
    syncs = λ _. few_syncs before found (found ++ added) added then refl spends;
    because = because;
  };
}

-- that ends as the disk failed
pub ends_given_up : (s t : Bool) (old new : Feed) (before : Sight) (found all : List EntryRecord) (edition : ℕ) (sight then : Sight) → HasFound t before edition found →
    GivesUp t before found all edition sight then → Goes before sight → old.faults ≤ new.faults → (IsTrue s → TakesDay old new (lines_of all) PrintFault) → EndsSo s t old new before then DiskFault
ends_given_up s t old new before found all edition sight then has gives goes faults input = record {
  counts = record { read = λ is. absurd (Prim.cc); print = λ is. absurd (Prim.cc); disk = λ _. omega (arith, gives.rose, goes.disk); faults = faults; goes = gives.goes };
  opened = record {
    found = found;
    all = all;
    done = all;
    edition = edition;
    spelled = has.spelled;
    header = has.header;
    entries = gives.entries;
    far = inr refl;
    input = λ told. at_disk_fault old new (lines_of all) (input told);
    text = λ told. tt;
    rest = λ told not. absurd (not refl);
    stops = gives.stops;
    behind = inl (λ told. found_front found all gives.entries.added.more (commands old.left) gives.entries.added.parts (input told).first);
    syncs = λ not. absurd (not refl);
    because = tt;
  };
}

-- or as a print failed
pub ends_in_part : (s t : Bool) (old new : Feed) (before : Sight) (found added : List EntryRecord) (tail edition : ℕ) (sight then : Sight) → HasFound t before edition found →
    PrintsInPart t before found added tail edition sight then → Spends 1 before added then → Goes before sight → old.faults ≤ new.faults →
    (IsTrue s → TakesDay old new (lines_of (found ++ added)) PrintFault) → EndsSo s t old new before then PrintFault
ends_in_part s t old new before found added tail edition sight then has prints spends goes faults input = record {
  counts = record { read = λ is. absurd (Prim.cc); print = λ _. omega (arith, prints.rose, goes.print); disk = λ is. absurd (Prim.cc); faults = faults; goes = prints.goes };
  opened = record {
    found = found;
    all = found ++ added;
    done = found ++ added;
    edition = edition;
    spelled = has.spelled;
    header = has.header;
    entries = prints.entries;
    far = inr refl;
    input = input;
    text = prints.text;
    rest = λ told _. record { tail = tail; rest = prints.rest told };
    stops = prints.stops;
    behind = inl (λ told. found_front found (found ++ added) added (commands old.left) refl (input told).first);
    syncs = λ _. few_syncs before found (found ++ added) added then refl spends;
    because = tt;
  };
}

-- the ends at which the reader gives no more
prints_at : (end : DayEnd) (text all : List ℕ) (before then : Sight) → EndsInput end → then.printed ≡ before.printed ++ text → PrintsDay end text all before then
prints_at Done text all before then ends is = is
prints_at ReadFault text all before then ends is = is
prints_at PrintFault text all before then ends is = absurd ends
prints_at DiskFault text all before then ends is = absurd ends
prints_at (Damaged place why) text all before then ends is = absurd ends
prints_at (OtherDay k) text all before then ends is = absurd ends
prints_at (LongLine k) text all before then ends is = is
prints_at LongFile text all before then ends is = is
prints_at (JournalFull need left) text all before then ends is = absurd ends
prints_at OutOfMemory text all before then ends is = is

because_at : (s t : Bool) (old : Feed) (before then : Sight) (found all : List EntryRecord) (edition : ℕ) (end : DayEnd) → EndsInput end → Because s t old before then found all all edition end
because_at s t old before then found all edition Done ends = refl
because_at s t old before then found all edition ReadFault ends = tt
because_at s t old before then found all edition PrintFault ends = absurd ends
because_at s t old before then found all edition DiskFault ends = absurd ends
because_at s t old before then found all edition (Damaged place why) ends = absurd ends
because_at s t old before then found all edition (OtherDay k) ends = absurd ends
because_at s t old before then found all edition (LongLine k) ends = tt
because_at s t old before then found all edition LongFile ends = tt
because_at s t old before then found all edition (JournalFull need left) ends = absurd ends
because_at s t old before then found all edition OutOfMemory ends = tt

no_fault : (end : DayEnd) → EndsInput end → ((end ≡ PrintFault) → ⊥) × ((end ≡ DiskFault) → ⊥)
no_fault end ends = ((λ is. subst EndsInput is ends), (λ is. subst EndsInput is ends))

-- What is held back was brought to the device and the console, or not.
module _ (s t : Bool) (old new : Feed) (before : Sight) (found added held : List EntryRecord) (r after : Register) (sight then : Sight) (end : DayEnd)
    (finishes : Finishes s t old new before found added held r sight end) (edition : after.journal.edition ≡ r.journal.edition) (goes : Goes sight then) (syncs : then.syncs ≤ sight.syncs + 2) where
  behind : (found ++ added) ++ held ≡ found ++ (added ++ held)
  behind = append_assoc found added held

  has : HasFound t before after.journal.edition found
  has = subst (λ x. HasFound t before x found) (sym edition) finishes.has

  first : Goes before sight
  first = finishes.so_far.stands.kept.goes

  both : Goes before then
  both = record { same_size = goes.same_size ∙ first.same_size; disk = omega (arith, first.disk, goes.disk); print = omega (arith, first.print, goes.print) }

  spends : Spends 1 before (added ++ held) then
  spends = spends_other before added held sight then finishes.so_far.spends syncs

  pub ends_flushed : Flushed t before found added held after sight then (Ok tt) → EndsSo s t old new before then end
  ends_flushed stands =
      ends_whole s t old new before found (added ++ held) after then end has stands spends
      (record {
        read = finishes.read;
        print = λ is. absurd ((no_fault end finishes.ends).0 is);
        disk = λ is. absurd ((no_fault end finishes.ends).1 is);
        faults = finishes.faults;
        goes = both;
      })
      (λ told. subst (λ xs. TakesDay old new (lines_of xs) end) behind (finishes.takes told))
      (λ told. prints_at end (text_of (found ++ (added ++ held))) (text_of (found ++ (added ++ held))) before then finishes.ends (stands.kept.text told))
      (because_at s t old before then found (found ++ (added ++ held)) after.journal.edition end finishes.ends)

  pub ends_unflushed : (n : RegisterNo) → Flushed t before found added held after sight then (Err n) → EndsSo s t old new before then (end_of_register n)
  ends_unflushed no.DiskFault gives = ends_given_up s t old new before found ((found ++ added) ++ held) after.journal.edition sight then has gives first finishes.faults finishes.within
  ends_unflushed no.PrintFault prints =
      ends_in_part s t old new before found (added ++ held) after.journal.tail after.journal.edition sight then has prints spends first finishes.faults
      (λ told. subst (λ xs. TakesDay old new (lines_of xs) PrintFault) behind (finishes.within told))
  ends_unflushed (no.JournalFull need left) none = absurd none
  ends_unflushed no.OutOfMemory none = absurd none
