-- One more entry: its record appended, the state behind it.
use Rattle.std.proofs.Common.{◌≡◌, ◌∙◌, ℕ, ◌+◌, ◌-◌, ◌<◌, Bool, List, [], ◌∷◌, ◌++◌, length, Option, refl, sym, ap, subst, arith}
use Rattle.std.specs.Prelude.{Result, Ok, Err, OnOk, IfErr}
use Rattle.std.specs.Int.{w32, to_be_bytes}
use Rattle.std.proofs.lemmas.List.{length-append}
use Rattle.dali_entry.specs.EntryRecord.{EntryRecord}
use Rattle.dali_journal.specs.Appends.{AtRest, Appends}
use Rattle.dali_journal.specs.Frames.{frame_of, payload_of}
use Rattle.dali_journal.specs.JournalAt.{Reached}
use Rattle.dali_journal.specs.declared.refusal.AppendNo.{AppendNo}
use Rattle.dali_journal.specs.declared.refusal.AppendNo.TheVariants as appending
use Rattle.dali_machine.specs.History.{HasItsChoice, state_of}
use Rattle.dali_machine.specs.Machine.{Machine, opening}
use Rattle.dali_machine.specs.Outcomes.{IsReported}
use Rattle.dali_machine.specs.Step.{judged, step}
use Rattle.dali_machine.specs.declared.outcome.Outcome.{Outcome}
use Rattle.dali_outside.specs.Outside.{Sight}
use Rattle.dali_record.specs.RecordText.{record_text}
use Rattle.dali_recover.specs.Recovers.{IsFound}
use Rattle.dali_recover.specs.declared.found.Found.{Found}
use Rattle.dali_recover.proofs.Histories.{state_more}
use Rattle.dali_recover.proofs.Reading.{read_more}
use Rattle.dali_replica.specs.Judging.{GoesOn, IsNextBy}
use Rattle.dali_replica.proofs.Judges.{next_of}
use Rattle.dali_tree.specs.declared.choice.Choice.{Choice}
use Rattle.dali_replica.specs.Stream.{ShippedRecord}
use Rattle.dali_follow.specs.Ending.{end_of_append}
use Rattle.dali_follow.specs.SoFar.{AppendsEntry, BreaksAdding, FitsNot, AddsNot, TakesNot}
use Rattle.dali_follow.specs.declared.end.FollowEnd.{FollowEnd}
use Rattle.dali_follow.specs.declared.end.FollowEnd.TheVariants.{Done, ReadFault, PrintFault, DiskFault, Damaged, OtherDay, BadFrame, LongFile, JournalFull, OutOfMemory}

pub frame_long : (bytes : List ℕ) → length (frame_of bytes) ≡ length bytes + 5
frame_long bytes = omega (arith, length-append (to_be_bytes w32 (length bytes)) (bytes ++ 0 ∷ []), length-append bytes (0 ∷ []))

-- the copy of the choice that the machine is given is the entry's own
pub has_choice : (edition : ℕ) (history : List EntryRecord) (bytes : List ℕ) (e : EntryRecord) (m : Machine) (copied : Option Choice) → GoesOn edition history bytes e → m ≡ state_of history → copied ≡ e.choice →
    HasItsChoice m (judged e.edition m e.line) copied
has_choice edition history bytes e m copied goes state same =
    subst (λ (x : Machine). HasItsChoice x (judged e.edition x e.line) copied) (sym state)
    (subst (HasItsChoice (state_of history) (judged e.edition (state_of history) e.line)) (sym same) (next_of history e goes.legal).choice)

-- what is answered to it is true
pub reported_of : (history : List EntryRecord) (e : EntryRecord) (m : Machine) (copied : Option Choice) (outcome : Outcome) → m ≡ state_of history → copied ≡ e.choice → outcome ≡ (step e.edition m e.line copied).outcome → IsReported outcome →
    IsReported (step e.edition (state_of history) e.line e.choice).outcome
reported_of history e m copied outcome state same is reported =
    subst IsReported (is ∙ ap (λ (x : Machine). (step e.edition x e.line copied).outcome) state ∙ ap (λ (o : Option Choice). (step e.edition (state_of history) e.line o).outcome) same) reported

-- the state behind it
pub next_state : (history : List EntryRecord) (e : EntryRecord) (m next : Machine) (copied : Option Choice) → m ≡ state_of history → copied ≡ e.choice → next ≡ (step e.edition m e.line copied).next → next ≡ state_of (history ++ e ∷ [])
next_state history e m next copied state same is =
    is ∙ ap (λ (x : Machine). (step e.edition x e.line copied).next) state ∙ ap (λ (o : Option Choice). (step e.edition (state_of history) e.line o).next) same ∙ sym (state_more opening history e)

-- what was found, and the entry behind it
pub added_found : (size : ℕ) (old new : Found) (bytes : List ℕ) (e : EntryRecord) → IsFound size old → GoesOn old.journal.edition old.entries bytes e → IsReported (step e.edition (state_of old.entries) e.line e.choice).outcome →
    new.entries ≡ old.entries ++ e ∷ [] → new.state.machine ≡ state_of (old.entries ++ e ∷ []) → new.state.machine.commands ≡ old.state.machine.commands + 1 →
    (n : ℕ) → n ≡ length bytes + 5 → new.journal ≡ record old.journal { tail = old.journal.tail + n; left = old.journal.left - n } → n < old.journal.left → IsFound size new
added_found size old new bytes e is goes reported entries state counted n long journal fits = record {
  read = read_more size old new bytes is.read (record {
    e = e;
    record_is = goes.record_is;
    most = goes.most;
    next = next_of old.entries e goes.legal;
    reported = reported;
    longer = entries;
  }) (state ∙ ap state_of (sym entries)) counted (ap (λ (j : Reached). j.edition) journal) (ap (λ (j : Reached). j.tail) journal ∙ ap (λ k. old.journal.tail + k) long)
      (omega (arith, ap (λ (j : Reached). j.tail) journal, ap (λ (j : Reached). j.left) journal, fits));
  ended = ap (λ (j : Reached). j.ended) journal ∙ is.ended;
}

-- the append of a frame whose payload is the entry's record
pub appends_entry : (worked : Bool) (tail : ℕ) (e : EntryRecord) (bytes sealed : List ℕ) (before after : Sight) → bytes ≡ record_text e → sealed ≡ frame_of bytes → payload_of sealed ≡ bytes →
    ((edition : ℕ) (list : List (List ℕ)) → AtRest tail edition list before → Appends worked tail edition list (payload_of sealed ∷ []) sealed before after) → AppendsEntry worked tail e before after
appends_entry worked tail e bytes sealed before after is frame payload stops edition list at = (
  sealed,
  ap length frame ∙ frame_long bytes ∙ ap (λ (bs : List ℕ). length bs + 5) is,
  subst (λ (bs : List ℕ). Appends worked tail edition list (bs ∷ []) sealed before after) (payload ∙ is) (stops edition list at),
)

-- what an append that failed says of the entry
pub add_failed : (told : Bool) (e : EntryRecord) (old : Found) (before after : Sight) (refusal : AppendNo) → (refusal ≡ appending.DiskFault → BreaksAdding told e old before after) →
    ((need left : ℕ) → refusal ≡ appending.JournalFull need left → FitsNot e old need left before after) → AddsNot told e old before after (end_of_append refusal)
add_failed told e old before after appending.DiskFault breaks short = breaks refl
add_failed told e old before after (appending.JournalFull need left) breaks short = short need left refl

pub fits_not : (e : EntryRecord) (old : Found) (bytes : List ℕ) (long need left : ℕ) (before after : Sight) → bytes ≡ record_text e → long ≡ length bytes + 5 → (old.journal.left < long + 1) × (need ≡ long + 1) × (left ≡ old.journal.left) → after ≡ before →
    FitsNot e old need left before after
fits_not e old bytes long need left before after is long_is full same = record {
  need_is = omega (arith, full.1, long_is, ap length is);
  left_is = full.2;
  short = omega (arith, full.0, full.1, full.2);
  same = same;
}

-- why an entry wasn't added is why its frame wasn't taken
pub frame_not : (told : Bool) (f : ShippedRecord) (e : EntryRecord) (old : Found) (before after : Sight) (end : FollowEnd) → IsNextBy old.journal.edition old.entries f e → AddsNot told e old before after end → TakesNot told f old before after end
frame_not told f e old before after Done next none = none
frame_not told f e old before after ReadFault next none = none
frame_not told f e old before after PrintFault next none = none
frame_not told f e old before after DiskFault next why = record { e = e; next = next; why = why }
frame_not told f e old before after (Damaged place why) next none = none
frame_not told f e old before after (OtherDay k) next none = absurd none
frame_not told f e old before after (BadFrame place) next none = absurd none
frame_not told f e old before after LongFile next none = none
frame_not told f e old before after (JournalFull need left) next why = record { e = e; next = next; why = why }
frame_not told f e old before after OutOfMemory next why = why

pub ok_more : (r : Result Unit FollowEnd) (P Q : Type 0) → (P → Q) → OnOk r P → OnOk r Q
ok_more (Ok u) P Q more is = more is
ok_more (Err e) P Q more is = tt

pub err_more : (r : Result Unit FollowEnd) (P Q : FollowEnd → Type 0) → ((e : FollowEnd) → P e → Q e) → IfErr r P → IfErr r Q
err_more (Ok u) P Q more is = tt
err_more (Err e) P Q more is = more e is
