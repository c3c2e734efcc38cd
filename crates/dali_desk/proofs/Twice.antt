use Rattle.std.proofs.Common.{◌≡◌, ◌≢◌, ◌∙◌, ℕ, ◌+◌, ◌≤◌, Bool, true, false, List, [], ◌∷◌, ◌++◌, length, replicate, refl, sym, ap, subst, arith, append_assoc, append-nil, length-append}
use Rattle.std.proofs.lemmas.List.{length-replicate}
use Rattle.std.specs.Prelude.{IsTrue}
use Rattle.dali_entry.specs.EntryRecord.{EntryRecord}
use Rattle.dali_journal.specs.declared.refusal.Damage.{Damage}
use Rattle.dali_line.specs.Commands.{commands}
use Rattle.dali_machine.specs.Machine.{opening}
use Rattle.dali_machine.specs.History.{state_of}
use Rattle.dali_outside.specs.Outside.{Feed, Sight, TellsAll, now}
use Rattle.dali_outside.specs.Stops.{IsImage}
use Rattle.dali_outside.proofs.Images.{own_left, only_image}
use Rattle.dali_outside.proofs.Moments.{keeps_now}
use Rattle.dali_recover.specs.Spells.{Spells, SpellsLegal}
use Rattle.dali_recover.proofs.Spelling.{one_history}
use Rattle.dali_register.specs.Front.{IsFront}
use Rattle.dali_register.specs.TextOf.{texts, text_of, lines_of}
use Rattle.dali_register.proofs.Fronts.{front_within}
use Rattle.dali_register.proofs.Texts.{texts_append, lines_append}
use Rattle.dali_day.specs.CrashPrefix.{EachSpellsFirst, BeginsAtStart, KeepsPrefix}
use Rattle.dali_day.specs.Endings.{IsWhole}
use Rattle.dali_day.specs.Promises.{DayPromises}
use Rattle.dali_day.specs.declared.end.DayEnd.{DayEnd}
use Rattle.dali_day.specs.declared.end.DayEnd.TheVariants as ends
use Rattle.dali_desk.specs.DayOver.{DayOver, status_of_day}
use Rattle.dali_desk.specs.Twice.{DoneOnce, DoneAgain, DoneTwice, RunsTwice}
use Rattle.dali_desk.specs.declared.status.Status.{Status}
use Rattle.dali_desk.specs.declared.status.Status.TheVariants.{Done, Invalid, Usage, ReadFault, PrintFault, DiskFault, Damaged, OtherDay, LongLine, LongFile, JournalFull, OutOfMemory}
use Rattle.dali_verdict.specs.declared.verdict.Why.{Why}

-- which end has these statuses
done_only : (e : DayEnd) → status_of_day e ≡ Done → e ≡ ends.Done
done_only ends.Done is = refl
done_only ends.ReadFault is = absurd (Prim.cc)
done_only ends.PrintFault is = absurd (Prim.cc)
done_only ends.DiskFault is = absurd (Prim.cc)
done_only (ends.Damaged place why) is = absurd (Prim.cc)
done_only (ends.OtherDay k) is = absurd (Prim.cc)
done_only (ends.LongLine k) is = absurd (Prim.cc)
done_only ends.LongFile is = absurd (Prim.cc)
done_only (ends.JournalFull need left) is = absurd (Prim.cc)
done_only ends.OutOfMemory is = absurd (Prim.cc)

pub read_only : (e : DayEnd) → status_of_day e ≡ ReadFault → e ≡ ends.ReadFault
read_only ends.Done is = absurd (Prim.cc)
read_only ends.ReadFault is = refl
read_only ends.PrintFault is = absurd (Prim.cc)
read_only ends.DiskFault is = absurd (Prim.cc)
read_only (ends.Damaged place why) is = absurd (Prim.cc)
read_only (ends.OtherDay k) is = absurd (Prim.cc)
read_only (ends.LongLine k) is = absurd (Prim.cc)
read_only ends.LongFile is = absurd (Prim.cc)
read_only (ends.JournalFull need left) is = absurd (Prim.cc)
read_only ends.OutOfMemory is = absurd (Prim.cc)

pub print_only : (e : DayEnd) → status_of_day e ≡ PrintFault → e ≡ ends.PrintFault
print_only ends.Done is = absurd (Prim.cc)
print_only ends.ReadFault is = absurd (Prim.cc)
print_only ends.PrintFault is = refl
print_only ends.DiskFault is = absurd (Prim.cc)
print_only (ends.Damaged place why) is = absurd (Prim.cc)
print_only (ends.OtherDay k) is = absurd (Prim.cc)
print_only (ends.LongLine k) is = absurd (Prim.cc)
print_only ends.LongFile is = absurd (Prim.cc)
print_only (ends.JournalFull need left) is = absurd (Prim.cc)
print_only ends.OutOfMemory is = absurd (Prim.cc)

pub disk_only : (e : DayEnd) → status_of_day e ≡ DiskFault → e ≡ ends.DiskFault
disk_only ends.Done is = absurd (Prim.cc)
disk_only ends.ReadFault is = absurd (Prim.cc)
disk_only ends.PrintFault is = absurd (Prim.cc)
disk_only ends.DiskFault is = refl
disk_only (ends.Damaged place why) is = absurd (Prim.cc)
disk_only (ends.OtherDay k) is = absurd (Prim.cc)
disk_only (ends.LongLine k) is = absurd (Prim.cc)
disk_only ends.LongFile is = absurd (Prim.cc)
disk_only (ends.JournalFull need left) is = absurd (Prim.cc)
disk_only ends.OutOfMemory is = absurd (Prim.cc)

damage_only : (e : DayEnd) (p : ℕ) (w : Damage) → status_of_day e ≡ Damaged p w → e ≡ ends.Damaged p w
damage_only ends.Done p w is = absurd (Prim.cc)
damage_only ends.ReadFault p w is = absurd (Prim.cc)
damage_only ends.PrintFault p w is = absurd (Prim.cc)
damage_only ends.DiskFault p w is = absurd (Prim.cc)
damage_only (ends.Damaged place why) p w is = Prim.cc
damage_only (ends.OtherDay k) p w is = absurd (Prim.cc)
damage_only (ends.LongLine k) p w is = absurd (Prim.cc)
damage_only ends.LongFile p w is = absurd (Prim.cc)
damage_only (ends.JournalFull need left) p w is = absurd (Prim.cc)
damage_only ends.OutOfMemory p w is = absurd (Prim.cc)

other_only : (e : DayEnd) (j : ℕ) → status_of_day e ≡ OtherDay j → e ≡ ends.OtherDay j
other_only ends.Done j is = absurd (Prim.cc)
other_only ends.ReadFault j is = absurd (Prim.cc)
other_only ends.PrintFault j is = absurd (Prim.cc)
other_only ends.DiskFault j is = absurd (Prim.cc)
other_only (ends.Damaged place why) j is = absurd (Prim.cc)
other_only (ends.OtherDay k) j is = Prim.cc
other_only (ends.LongLine k) j is = absurd (Prim.cc)
other_only ends.LongFile j is = absurd (Prim.cc)
other_only (ends.JournalFull need left) j is = absurd (Prim.cc)
other_only ends.OutOfMemory j is = absurd (Prim.cc)

never_usage : (e : DayEnd) → status_of_day e ≢ Usage
never_usage ends.Done is = absurd (Prim.cc)
never_usage ends.ReadFault is = absurd (Prim.cc)
never_usage ends.PrintFault is = absurd (Prim.cc)
never_usage ends.DiskFault is = absurd (Prim.cc)
never_usage (ends.Damaged place why) is = absurd (Prim.cc)
never_usage (ends.OtherDay k) is = absurd (Prim.cc)
never_usage (ends.LongLine k) is = absurd (Prim.cc)
never_usage ends.LongFile is = absurd (Prim.cc)
never_usage (ends.JournalFull need left) is = absurd (Prim.cc)
never_usage ends.OutOfMemory is = absurd (Prim.cc)

never_invalid : (e : DayEnd) (w : Why) → status_of_day e ≢ Invalid w
never_invalid ends.Done w is = absurd (Prim.cc)
never_invalid ends.ReadFault w is = absurd (Prim.cc)
never_invalid ends.PrintFault w is = absurd (Prim.cc)
never_invalid ends.DiskFault w is = absurd (Prim.cc)
never_invalid (ends.Damaged place why) w is = absurd (Prim.cc)
never_invalid (ends.OtherDay k) w is = absurd (Prim.cc)
never_invalid (ends.LongLine k) w is = absurd (Prim.cc)
never_invalid ends.LongFile w is = absurd (Prim.cc)
never_invalid (ends.JournalFull need left) w is = absurd (Prim.cc)
never_invalid ends.OutOfMemory w is = absurd (Prim.cc)

-- a list whose rest is empty
no_rest : (first : List (List ℕ)) (a b : List (List ℕ)) → first ≡ (first ++ a) ++ b → a ≡ []
no_rest first [] b same = refl
no_rest first (x ∷ a) b same = absurd (omega (arith, ap length same, length-append (first ++ x ∷ a) b, length-append first (x ∷ a)))

no_lines : (entries : List EntryRecord) → lines_of entries ≡ [] → entries ≡ []
no_lines [] none = refl
no_lines (e ∷ entries) none = absurd (Prim.cc)

-- a front of a history whose lines are all of a file's commands is the history
whole_is : (file : List (List ℕ)) (front whole : List EntryRecord) → IsFront front whole → lines_of front ≡ file → IsFront (lines_of whole) file → front ≡ whole
whole_is file front whole is all first =
    let lines : lines_of front ≡ (lines_of front ++ lines_of is.rest) ++ first.rest =
    all ∙ first.parts ∙ ap (λ xs. xs ++ first.rest) (ap lines_of is.parts ∙ lines_append front is.rest) in
    sym (is.parts ∙ ap (λ xs. front ++ xs) (no_lines is.rest (no_rest (lines_of front) (lines_of is.rest) first.rest lines)) ∙ append-nil front)

text_front : (front whole : List EntryRecord) → IsFront front whole → IsFront (text_of front) (text_of whole)
text_front front whole is = record { rest = texts (state_of front) is.rest; parts = ap text_of is.parts ∙ texts_append opening front is.rest }

-- Two runs of one file.
module _ (old new other newer : Feed) (before between after : Sight) (one two : Status) (left : other.left ≡ old.left) (premise : EachSpellsFirst old.left before)
    (first : DayOver true true old new before between one) (second : DayOver true true other newer between after two) where
  file : List ℕ
  file = old.left

  p1 : DayPromises old new before between first.end
  p1 = first.promises refl refl

  p2 : DayPromises other newer between after second.end
  p2 = second.promises refl refl

  mid : EachSpellsFirst old.left between
  mid = p1.twice premise

  mid_too : EachSpellsFirst other.left between
  mid_too = subst (λ f. EachSpellsFirst f between) (sym left) mid

  at_end : EachSpellsFirst old.left after
  at_end = subst (λ f. EachSpellsFirst f after) left (p2.twice mid_too)

  -- what the first run left, and what the second
  kept_mid : KeepsPrefix old.left before between.bytes between.printed
  kept_mid = keeps_now (KeepsPrefix old.left before) before between (p1.prefix premise) between.bytes between.printed (own_left between (second.day.told refl))

  kept_end : KeepsPrefix other.left between after.bytes after.printed
  kept_end = keeps_now (KeepsPrefix other.left between) between after (p2.prefix mid_too) after.bytes after.printed (own_left after (second.day.told_after refl))

  whole_one : one ≡ Done → IsWhole old.left before between
  whole_one is = p1.whole (done_only first.end (sym first.status_is ∙ is))

  whole_two : two ≡ Done → IsWhole other.left between after
  whole_two is = p2.whole (done_only second.end (sym second.status_is ∙ is))

  -- the history of a first run that is done is still that of the device
  same_end : (w : IsWhole old.left before between) → w.history ≡ kept_end.history
  same_end w =
      let b : BeginsAtStart between kept_end.history = kept_end.begins in
      let tells = second.day.told refl in
      let image : b.image ≡ between.bytes = only_image between.bytes (length between.loose) b.image (omega (arith, tells.bytes, tells.loose))
      (subst (λ ls. IsImage between.bytes ls b.image) w.firm b.left.disk) in
      let start : b.start ≡ w.history = one_history between.bytes b.start w.history (subst (λ bs. Spells bs b.start) image b.spells) w.spells.spells in
      whole_is (commands old.left) w.history kept_end.history (subst (λ xs. IsFront xs kept_end.history) start b.begins) w.lines
      (subst (λ f. IsFront (lines_of kept_end.history) (commands f)) left kept_end.first)

  once : one ≡ Done → DoneOnce old.left before after
  once is =
      let w = whole_one is in
      record {
        history = w.history;
        spells = subst (SpellsLegal after.bytes) (sym (same_end w)) kept_end.spells;
        lines = w.lines;
        rest = kept_end.shown;
        text = kept_end.printed ∙ ap (λ xs. xs ++ kept_end.shown) w.text ∙ append_assoc before.printed (text_of w.history) kept_end.shown;
      }

  again : two ≡ Done → DoneAgain old.left before after
  again is =
      let w = whole_two is in
      let found : kept_mid.history ≡ w.found = one_history between.bytes kept_mid.history w.found kept_mid.spells.spells w.spelled in
      record {
        history = w.history;
        spells = w.spells;
        lines = w.lines ∙ ap commands left;
        shown = kept_mid.shown;
        front = front_within kept_mid.shown (text_of w.found) (text_of w.history) (subst (λ xs. IsFront kept_mid.shown (text_of xs)) found kept_mid.front) (text_front w.found w.history w.begins);
        text = w.text ∙ ap (λ xs. xs ++ text_of w.history) kept_mid.printed ∙ append_assoc before.printed kept_mid.shown (text_of w.history);
      }

  twice : one ≡ Done → two ≡ Done → DoneTwice old.left before after
  twice is too =
      let v = whole_one is in
      let w = whole_two too in
      let same : v.history ≡ w.history = same_end v ∙ one_history after.bytes kept_end.history w.history kept_end.spells.spells w.spells.spells in
      record {
        history = w.history;
        spells = w.spells;
        lines = w.lines ∙ ap commands left;
        text = w.text ∙ ap (λ xs. xs ++ text_of w.history) (v.text ∙ ap (λ h. before.printed ++ text_of h) same) ∙ append_assoc before.printed (text_of w.history) (text_of w.history);
      }

  pub runs_twice : RunsTwice old new other newer before after one two
  runs_twice = record {
    premise = at_end;
    between = between;
    first = first;
    second = second;
    first_done = once;
    second_done = again;
    both_done = twice;
    no_usage = λ is. never_usage second.end (sym second.status_is ∙ is);
    no_invalid = λ why is. never_invalid second.end why (sym second.status_is ∙ is);
    no_damage = λ place why is. p2.no_damage mid_too place why (damage_only second.end place why (sym second.status_is ∙ is));
    no_other_day = λ k is. p2.no_other_day mid_too k (other_only second.end k (sym second.status_is ∙ is));
    read_fault = λ is. second.day.counts.read (read_only second.end (sym second.status_is ∙ is));
    print_fault = λ is. omega (arith, second.day.counts.print (print_only second.end (sym second.status_is ∙ is)), first.day.counts.goes.print);
    disk_fault = λ is. omega (arith, second.day.counts.disk (disk_only second.end (sym second.status_is ∙ is)), first.day.counts.goes.disk);
  }

-- a run over a source and a site that tell
pub over_told : (s t : Bool) (old new : Feed) (before after : Sight) (status : Status) → IsTrue s → IsTrue t → DayOver s t old new before after status → DayOver true true old new before after status
over_told s t old new before after status s_tells t_tells day =
    subst (λ b. DayOver true b old new before after status) t_tells (subst (λ b. DayOver b t old new before after status) s_tells day)
