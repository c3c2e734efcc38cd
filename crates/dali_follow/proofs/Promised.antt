-- What is promised of a follower follows from what its run took, printed and left.
use Rattle.std.proofs.Common.{◌≡◌, ◌⊎◌, ◌∙◌, inl, inr, ℕ, ◌≤◌, Bool, true, List, [], ◌∷◌, ◌++◌, length, refl, ap, subst, arith, append_assoc}
use Rattle.std.specs.Prelude.{IsTrue}
use Rattle.std.specs.List.{All}
use Rattle.std.proofs.lemmas.List.{length-append}
use Rattle.dali_entry.specs.EntryRecord.{EntryRecord}
use Rattle.dali_outside.specs.Outside.{Feed, Sight, TellsAll}
use Rattle.dali_outside.proofs.Images.{own_left}
use Rattle.dali_record.specs.IsRecord.{IsRecord}
use Rattle.dali_recover.specs.Spells.{SpellsLegal}
use Rattle.dali_recover.proofs.Histories.{all_there}
use Rattle.dali_recover.proofs.Spelling.{one_history}
use Rattle.dali_replica.specs.Shipping.{IsFrameOf, frames_of}
use Rattle.dali_replica.specs.Stream.{ShippedRecord, HasFrames}
use Rattle.dali_replica.specs.Limits.{most_stream}
use Rattle.dali_replica.proofs.Fronts.{one_stream}
use Rattle.dali_upkeep.specs.Editions.{SpellsIn}
use Rattle.dali_upkeep.specs.RaiseRun.{EachAtStart, SpellsOne}
use Rattle.dali_upkeep.proofs.Editing.{legal_in}
use Rattle.dali_follow.specs.Endings.{HoldsAll}
use Rattle.dali_follow.specs.FollowPrefix.{KeepsTaken, FollowPrefix}
use Rattle.dali_follow.specs.FollowRun.{TakesStream, PastLimit, Opened, FollowRun}
use Rattle.dali_follow.specs.Held.{held_text}
use Rattle.dali_follow.specs.Primary.{SpellsPrefix, ComesFrom, CanHold, IsClear, HoldsPrimary}
use Rattle.dali_follow.specs.Promises.{FollowPromises}
use Rattle.dali_follow.specs.Takes.{Takes, AreFirst}
use Rattle.dali_follow.specs.declared.end.FollowEnd.{FollowEnd}
use Rattle.dali_follow.specs.declared.end.FollowEnd.TheVariants.{Done, ReadFault, PrintFault, DiskFault, Damaged, OtherDay, BadFrame, LongFile, JournalFull, OutOfMemory}
use Rattle.dali_follow.proofs.Exactly.{run_other, run_bad, run_overlong}
use Rattle.dali_follow.proofs.Leaving.{run_undamaged, run_leaves}
use Rattle.dali_follow.proofs.Parses.{first_shipped, frames_are, none_overlong, shipped_whole, whole_from}
use Rattle.dali_follow.proofs.Prefixes.{run_prefix, run_begins, run_again, stream_first}
use Rattle.dali_follow.proofs.Primaries.{taken_front, not_other, not_bad, takes_all, fits_next}
use Rattle.dali_follow.proofs.Streams.{whole_has}
use Rattle.dali_follow.proofs.Takings.{Front}

-- a prefix of the primary's history is a legal one
starts_legal : (primary : List EntryRecord) (stream : List ℕ) (before : Sight) → ComesFrom primary stream before → EachAtStart before SpellsOne
starts_legal primary stream before comes image text left = let is = comes.starts image text left in record { history = is.history; legal = is.legal }

-- what an image at the start spells is a prefix
start_front : (primary : List EntryRecord) (stream : List ℕ) (before : Sight) (edition : ℕ) (found : List EntryRecord) (image : List ℕ) → SpellsPrefix primary image → SpellsIn edition found image → Front found primary
start_front primary stream before edition found image is spelled =
    let same : is.history ≡ found = one_history image is.history found is.legal.spells (legal_in edition found image spelled).spells in
    record { rest = is.rest; parts = is.parts ∙ ap (λ (es : List EntryRecord). es ++ is.rest) same }

kept_follows : (primary : List EntryRecord) (stream : List ℕ) (before : Sight) → ComesFrom primary stream before → (image text : List ℕ) → KeepsTaken stream before image text → SpellsPrefix primary image
kept_follows primary stream before comes image text kept =
    let front = start_front primary stream before kept.edition kept.found kept.start (comes.starts kept.start kept.start_text kept.left) kept.spelled in
    let on = taken_front kept.edition primary kept.found kept.frames kept.history front (frames_are primary stream comes.shipped kept.frames kept.first) kept.takes in
    record { history = kept.history; legal = legal_in kept.edition kept.history image kept.spells; rest = on.rest; parts = on.parts }

module _ (old new : Feed) (before after : Sight) (end : FollowEnd) (primary : List EntryRecord) (comes : ComesFrom primary old.left before) (tells : TellsAll before) (o : Opened true true old new before after end) where
  found_front : Front o.found primary
  found_front = start_front primary old.left before o.edition o.found before.bytes (comes.starts before.bytes before.printed (own_left before tells)) (o.spelled refl)

  first_are : AreFirst old.left o.follows.frames
  first_are = stream_first old new o.follows.frames end (o.follows.input refl)

  all_front : Front o.follows.all primary
  all_front = taken_front o.edition primary o.found o.follows.frames o.follows.all found_front (frames_are primary old.left comes.shipped o.follows.frames first_are) o.follows.takes

  -- the frame behind those taken is the primary's
  next_of : (f : ShippedRecord) → AreFirst old.left (o.follows.frames ++ f ∷ []) → IsFrameOf primary f
  next_of f are = all_there (IsFrameOf primary) o.follows.frames f [] (frames_are primary old.left comes.shipped (o.follows.frames ++ f ∷ []) are)

  -- and its record's edition is one that the journal can hold
  next_held : CanHold old.left before → (f : ShippedRecord) → AreFirst old.left (o.follows.frames ++ f ∷ []) → (e : EntryRecord) → IsRecord f.bytes e → e.edition ≤ o.edition
  next_held holds f are =
      let front = first_shipped primary old.left comes.shipped (o.follows.frames ++ f ∷ []) are in
      let each = holds.each o.edition o.found (o.spelled refl) comes.shipped.frames (shipped_whole primary old.left comes.shipped) in
      all_there (λ (g : ShippedRecord). (e : EntryRecord) → IsRecord g.bytes e → e.edition ≤ o.edition) o.follows.frames f front.rest
      (subst (All (λ (g : ShippedRecord). (e : EntryRecord) → IsRecord g.bytes e → e.edition ≤ o.edition)) (front.parts ∙ append_assoc o.follows.frames (f ∷ []) front.rest) each)

no_other : (old new : Feed) (before after : Sight) (k : ℕ) (primary : List EntryRecord) → ComesFrom primary old.left before → FollowRun true true old new before after (OtherDay k) → ⊥
no_other old new before after k primary comes run = elim run.came [
  | inl u ↦ u.ends
  | inr o ↦
      let why = o.follows.because in
      not_other primary o.follows.all why.f (all_front old new before after (OtherDay k) primary comes (run.told refl) o)
      (next_of old new before after (OtherDay k) primary comes (run.told refl) o why.f (why.behind.first refl)) why.other
]

no_bad : (old new : Feed) (before after : Sight) (place : ℕ) (primary : List EntryRecord) → ComesFrom primary old.left before → CanHold old.left before → FollowRun true true old new before after (BadFrame place) → ⊥
no_bad old new before after place primary comes holds run = elim run.came [
  | inl u ↦ u.ends
  | inr o ↦ elim o.follows.because [
    | inl why ↦ not_bad o.edition primary o.follows.all why.f comes.legal (all_front old new before after (BadFrame place) primary comes (run.told refl) o)
        (next_of old new before after (BadFrame place) primary comes (run.told refl) o why.f (why.behind.first refl))
        (next_held old new before after (BadFrame place) primary comes (run.told refl) o holds why.f (why.behind.first refl)) why.bad
    | inr why ↦ none_overlong primary old.left comes.shipped o.follows.frames why.rest (first_are old new before after (BadFrame place) primary comes (run.told refl) o) (why.parts refl) why.overlong
  ]
]

-- a run that is done has the primary's whole history
holds_primary : (old new : Feed) (before after : Sight) (primary : List EntryRecord) → ComesFrom primary old.left before → IsClear primary old new before after → TellsAll before → HoldsAll old.left before after → HoldsPrimary primary before after Done
holds_primary old new before after primary comes clear tells all =
    let front = start_front primary old.left before all.edition all.found before.bytes (comes.starts before.bytes before.printed (own_left before tells)) all.spelled in
    let whole : HasFrames old.left (frames_of primary) = whole_from old.left primary clear.whole clear.few clear.short in
    let same : all.frames ≡ frames_of primary = one_stream old.left all.frames (frames_of primary) (whole_has old.left all.frames all.whole) whole in
    let ships : comes.shipped.frames ≡ frames_of primary = one_stream old.left comes.shipped.frames (frames_of primary) (shipped_whole primary old.left comes.shipped) whole in
    let is : all.history ≡ primary = takes_all all.edition primary all.found all.history front (subst (All (IsFrameOf primary)) ships comes.shipped.each)
    (subst (λ (fs : List ShippedRecord). Takes all.edition all.found fs all.history) same all.takes) in
    record {
      done = refl;
      spells = subst (SpellsLegal after.bytes) is (legal_in all.edition all.history after.bytes all.spells);
      text = all.text ∙ ap (λ (es : List EntryRecord). before.printed ++ held_text (length es)) is;
    }

past_limit : (old new : Feed) (frames : List ShippedRecord) → TakesStream old new frames LongFile → length old.left ≤ most_stream → ⊥
past_limit old new frames input small =
    let past : PastLimit input.taken frames = input.at in
    absurd (omega (arith, small, past.limit, ap length input.moved, length-append input.taken new.left, ap length past.parts, length-append past.within (past.past ∷ [])))

run_complete : (old new : Feed) (before after : Sight) (end : FollowEnd) (primary : List EntryRecord) → ComesFrom primary old.left before → CanHold old.left before → IsClear primary old new before after →
    FollowRun true true old new before after end → HoldsPrimary primary before after end ⊎ (end ≡ OutOfMemory)
run_complete old new before after Done primary comes holds clear run =
    inl (holds_primary old new before after primary comes clear (run.told refl) (run_leaves old new before after Done (starts_legal primary old.left before comes) run))
run_complete old new before after ReadFault primary comes holds clear run = absurd (clear.no_read (run.counts.read refl))
run_complete old new before after PrintFault primary comes holds clear run = absurd (clear.no_print (run.counts.print refl))
run_complete old new before after DiskFault primary comes holds clear run = absurd (clear.no_disk (run.counts.disk refl))
run_complete old new before after (Damaged place why) primary comes holds clear run = absurd (run_undamaged old new before after place why (starts_legal primary old.left before comes) run)
run_complete old new before after (OtherDay k) primary comes holds clear run = absurd (no_other old new before after k primary comes run)
run_complete old new before after (BadFrame place) primary comes holds clear run = absurd (no_bad old new before after place primary comes holds run)
run_complete old new before after LongFile primary comes holds clear run = elim run.came [
  | inl u ↦ absurd u.ends
  | inr o ↦ absurd (past_limit old new o.follows.frames (o.follows.input refl) clear.small)
]
run_complete old new before after (JournalFull need left) primary comes holds clear run = elim run.came [
  | inl u ↦ absurd u.ends
  | inr o ↦
      let why = o.follows.because in
      absurd (fits_next o.edition primary o.follows.all why.f why.entry before.size left need (all_front old new before after (JournalFull need left) primary comes (run.told refl) o)
      (next_of old new before after (JournalFull need left) primary comes (run.told refl) o why.f (why.behind.first refl)) why.next clear.fits (why.left_is ∙ o.goes.same_size) why.need_is why.short)
]
run_complete old new before after OutOfMemory primary comes holds clear run = inr refl

promised : (old new : Feed) (before after : Sight) (end : FollowEnd) → FollowRun true true old new before after end → FollowPromises old new before after end
promised old new before after end run = record {
  prefix = λ premise. run_prefix old new before after end premise run;
  begins = λ premise front each. run_begins old.left before after front (run_prefix old new before after end premise run) each;
  again = λ premise. run_again old.left before after (run_prefix old new before after end premise run);
  leaves = λ premise. run_leaves old new before after end premise run;
  other = λ k at. run_other old new before after k at end run;
  bad = λ place at. run_bad old new before after place at end run;
  overlong = λ place at. run_overlong old new before after place at end run;
  follows = λ primary comes image text left.
      let prefix : FollowPrefix old.left before after = run_prefix old new before after end (starts_legal primary old.left before comes) run in
      kept_follows primary old.left before comes image text (prefix.each image text left);
  no_other_day = λ primary comes k is. no_other old new before after k primary comes (subst (FollowRun true true old new before after) is run);
  no_bad_frame = λ primary comes holds place is. no_bad old new before after place primary comes holds (subst (FollowRun true true old new before after) is run);
  complete = λ primary comes holds clear. run_complete old new before after end primary comes holds clear run;
}

-- what follows for a source and a site that tell
pub follow_promises : (s t : Bool) (old new : Feed) (before after : Sight) (end : FollowEnd) → IsTrue s → IsTrue t → FollowRun s t old new before after end → FollowPromises old new before after end
follow_promises s t old new before after end s_tells t_tells run =
    promised old new before after end (subst (λ b. FollowRun true b old new before after end) t_tells (subst (λ b. FollowRun b t old new before after end) s_tells run))
