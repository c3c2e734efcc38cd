-- Where the first frame that can't be taken is another's, bad or too long, the answer says so.
use Rattle.std.proofs.Common.{◌≡◌, ◌⊎◌, ◌∙◌, inl, inr, ℕ, ◌+◌, true, List, [], ◌∷◌, ◌++◌, length, drop, refl, sym, ap, subst, arith, append_assoc, append-nil}
use Rattle.std.proofs.lemmas.List.{length-append, drop_at}
use Rattle.dali_entry.specs.EntryRecord.{EntryRecord}
use Rattle.dali_journal.specs.declared.refusal.Damage.{Damage}
use Rattle.dali_outside.specs.Outside.{Feed, Sight}
use Rattle.dali_recover.proofs.Damages.{not_damaged}
use Rattle.dali_replica.specs.Frame.{frame_text, EndsWithin, IsOverlong}
use Rattle.dali_replica.specs.Judging.{IsNextBy, IsOther, IsBad, JudgedSo}
use Rattle.dali_replica.specs.Stream.{ShippedRecord, IsFrame, stream_text, StandFrom}
use Rattle.dali_replica.specs.declared.judged.Judged.{Judged}
use Rattle.dali_replica.specs.declared.judged.Judged.TheVariants as judged
use Rattle.dali_replica.proofs.Fronts.{same_frame, whole_not_within, whole_not_overlong, within_not_overlong}
use Rattle.dali_replica.proofs.Judges.{one_answer}
use Rattle.dali_upkeep.specs.Editions.{SpellsIn}
use Rattle.dali_upkeep.proofs.Editing.{legal_in, same_edition, same_history}
use Rattle.dali_follow.specs.FollowRun.{TakesStream, Opened, FollowRun}
use Rattle.dali_follow.specs.Takes.{IsPassed, Takes, AreFirst, AreWhole}
use Rattle.dali_follow.specs.Where.{GoesTo, IsOtherAt, IsBadAt, IsOverlongAt, AnswersOther, AnswersBad}
use Rattle.dali_follow.specs.declared.end.FollowEnd.{FollowEnd}
use Rattle.dali_follow.specs.declared.end.FollowEnd.TheVariants.{Done, ReadFault, PrintFault, DiskFault, Damaged, OtherDay, BadFrame, LongFile, JournalFull, OutOfMemory}
use Rattle.dali_follow.proofs.Parses.{frame_is}
use Rattle.dali_follow.proofs.Prefixes.{stream_first, all_read}
use Rattle.dali_follow.proofs.Takings.{one_taken}

-- ---- two lists of first frames: one is a front of the other

record Compared (xs ys : List ShippedRecord) (rest end : List ℕ) : Type 0 where
  more : List ShippedRecord
  parts : ys ≡ xs ++ more
  behind : rest ≡ stream_text more ++ end

compare : (place : ℕ) (xs ys : List ShippedRecord) (rest end bytes : List ℕ) → StandFrom place xs → StandFrom place ys → bytes ≡ stream_text xs ++ rest → bytes ≡ stream_text ys ++ end →
    Compared xs ys rest end ⊎ Compared ys xs end rest
compare place [] ys rest end bytes first second one two = inl (record { more = ys; parts = refl; behind = sym one ∙ two })
compare place (f ∷ xs) [] rest end bytes first second one two = inr (record { more = f ∷ xs; parts = refl; behind = sym two ∙ one })
compare place (f ∷ xs) (g ∷ ys) rest end bytes first second one two =
    let same = same_frame f g (stream_text xs ++ rest) (stream_text ys ++ end) bytes first.1 second.1
    (one ∙ append_assoc (frame_text f.number f.bytes) (stream_text xs) rest) (two ∙ append_assoc (frame_text g.number g.bytes) (stream_text ys) end) in
    let is : f ≡ g = frame_is f g (first.0 ∙ sym second.0) same.number_is same.bytes_are in
    elim (compare (place + length (frame_text f.number f.bytes)) xs ys rest end (stream_text xs ++ rest) first.2
    (subst (λ (h : ShippedRecord). StandFrom (place + length (frame_text h.number h.bytes)) ys) (sym is) second.2) refl same.rest_is) [
      | inl longer ↦ inl (record {
        more = longer.more;
        parts = ap (λ (h : ShippedRecord). h ∷ ys) (sym is) ∙ ap (λ (hs : List ShippedRecord). f ∷ hs) longer.parts;
        behind = longer.behind;
      })
      | inr shorter ↦ inr (record {
        more = shorter.more;
        parts = ap (λ (h : ShippedRecord). h ∷ xs) is ∙ ap (λ (hs : List ShippedRecord). g ∷ hs) shorter.parts;
        behind = shorter.behind;
      })
    ]

stand_behind : (place : ℕ) (xs : List ShippedRecord) (g : ShippedRecord) (ys : List ShippedRecord) → StandFrom place (xs ++ g ∷ ys) → IsFrame g
stand_behind place [] g ys stand = stand.1
stand_behind place (x ∷ xs) g ys stand = stand_behind (place + length (frame_text x.number x.bytes)) xs g ys stand.2

-- where a frame comes behind, the bytes behind neither end within it nor have one that is too long
next_whole : (g : ShippedRecord) (more : List ShippedRecord) (rest end : List ℕ) → IsFrame g → rest ≡ stream_text (g ∷ more) ++ end → EndsWithin rest → ⊥
next_whole g more rest end is parts within = whole_not_within g (stream_text more ++ end) rest is (parts ∙ append_assoc (frame_text g.number g.bytes) (stream_text more) end) within

next_allowed : (g : ShippedRecord) (more : List ShippedRecord) (rest end : List ℕ) → IsFrame g → rest ≡ stream_text (g ∷ more) ++ end → IsOverlong rest → ⊥
next_allowed g more rest end is parts over = whole_not_overlong g (stream_text more ++ end) rest is (parts ∙ append_assoc (frame_text g.number g.bytes) (stream_text more) end) over

-- ---- what the frames before make of a history

record Between (edition : ℕ) (found : List EntryRecord) (xs ys : List ShippedRecord) (all : List EntryRecord) : Type 0 where
  mid : List EntryRecord
  first : Takes edition found xs mid
  second : Takes edition mid ys all

between : (edition : ℕ) (found : List EntryRecord) (xs ys : List ShippedRecord) (all : List EntryRecord) → Takes edition found (xs ++ ys) all → Between edition found xs ys all
between edition found [] ys all takes = record { mid = found; first = refl; second = takes }
between edition found (x ∷ xs) ys all (inl adds) =
    let on = between edition (found ++ adds.0 ∷ []) xs ys all adds.2 in record { mid = on.mid; first = inl (adds.0, adds.1, on.first); second = on.second }
between edition found (x ∷ xs) ys all (inr passes) = let on = between edition found xs ys all passes.1 in record { mid = on.mid; first = inr (passes.0, on.first); second = on.second }

-- a frame that a history can't take
record IsStuck (edition : ℕ) (history : List EntryRecord) (f : ShippedRecord) : Type 0 where
  no_next : (e : EntryRecord) → IsNextBy edition history f e → ⊥
  not_passed : IsPassed history f → ⊥

differ : (edition : ℕ) (history : List EntryRecord) (f : ShippedRecord) (a b : Judged) → JudgedSo edition history f a → JudgedSo edition history f b → (a ≡ b → ⊥) → ⊥
differ edition history f a b first second apart = apart (one_answer edition history f a b first second)

other_stuck : (edition : ℕ) (history : List EntryRecord) (f : ShippedRecord) → IsOther history f → IsStuck edition history f
other_stuck edition history f other = record {
  no_next = λ e next. differ edition history f judged.Other (judged.Next e) other next (λ is. absurd (cc is));
  not_passed = λ passed. elim passed [
    | inl kept ↦ differ edition history f judged.Other judged.Kept other kept (λ is. absurd (cc is))
    | inr ahead ↦ differ edition history f judged.Other judged.Ahead other ahead (λ is. absurd (cc is))
  ];
}

bad_stuck : (edition : ℕ) (history : List EntryRecord) (f : ShippedRecord) → IsBad edition history f → IsStuck edition history f
bad_stuck edition history f bad = record {
  no_next = λ e next. differ edition history f judged.Bad (judged.Next e) bad next (λ is. absurd (cc is));
  not_passed = λ passed. elim passed [
    | inl kept ↦ differ edition history f judged.Bad judged.Kept bad kept (λ is. absurd (cc is))
    | inr ahead ↦ differ edition history f judged.Bad judged.Ahead bad ahead (λ is. absurd (cc is))
  ];
}

-- frames that are taken have none that can't be
taken_on : (edition : ℕ) (found history : List EntryRecord) (xs : List ShippedRecord) (f : ShippedRecord) (ys : List ShippedRecord) (all : List EntryRecord) → Takes edition found xs history → IsStuck edition history f →
    Takes edition found (xs ++ f ∷ ys) all → ⊥
taken_on edition found history xs f ys all before stuck takes =
    let on = between edition found xs (f ∷ ys) all takes in
    stops (subst (λ (es : List EntryRecord). Takes edition es (f ∷ ys) all) (one_taken edition found xs on.mid history on.first before) on.second)
  where
    stops : Takes edition history (f ∷ ys) all → ⊥
    stops (inl adds) = stuck.no_next adds.0 adds.1
    stops (inr passes) = stuck.not_passed passes.0

-- lists with one front go on alike
same_rest : (front rest other : List ℕ) → front ++ rest ≡ front ++ other → rest ≡ other
same_rest front rest other same = sym (drop_at front rest (length front) refl) ∙ ap (λ (bs : List ℕ). drop (length front) bs) same ∙ drop_at front other (length front) refl

abbrev FrontWith : List ShippedRecord → List ShippedRecord → ShippedRecord → Type 0
FrontWith longer xs h = (more : List ShippedRecord) × (longer ≡ xs ++ h ∷ more)

-- without its last frame a list begins with a shorter one and the frame behind it
drop_last : (longer xs : List ShippedRecord) (f h x : ShippedRecord) (more : List ShippedRecord) → longer ++ f ∷ [] ≡ xs ++ h ∷ x ∷ more → FrontWith longer xs h
drop_last [] [] f h x more same = absurd (omega (arith, ap length same))
drop_last [] (b ∷ xs) f h x more same = absurd (omega (arith, ap length same, length-append xs (h ∷ x ∷ more)))
drop_last (a ∷ longer) [] f h x more same = (longer, ap (λ (z : ShippedRecord). z ∷ longer) (cc))
drop_last (a ∷ longer) (b ∷ xs) f h x more same =
    let later = drop_last longer xs f h x more (cc) in
    let head : a ≡ b = cc in
    (later.0, ap (λ (z : ShippedRecord). z ∷ longer) head ∙ ap (λ (zs : List ShippedRecord). b ∷ zs) later.1)

-- lists with one more frame each
abbrev SameLast : List ShippedRecord → List ShippedRecord → ShippedRecord → ShippedRecord → Type 0
SameLast xs ys x y = (xs ≡ ys) × (x ≡ y)

last : (xs ys : List ShippedRecord) (x y : ShippedRecord) → xs ++ x ∷ [] ≡ ys ++ y ∷ [] → SameLast xs ys x y
last [] [] x y same = (refl, cc)
last [] (b ∷ ys) x y same = absurd (omega (arith, ap length same, length-append ys (y ∷ [])))
last (a ∷ xs) [] x y same = absurd (omega (arith, ap length same, length-append xs (x ∷ [])))
last (a ∷ xs) (b ∷ ys) x y same =
    let later = last xs ys x y (cc) in
    let head : a ≡ b = cc in
    (ap (λ (z : ShippedRecord). z ∷ xs) head ∙ ap (λ (zs : List ShippedRecord). b ∷ zs) later.0, later.1)

-- ---- a run, and where it can't go further

-- At an end at which these frames were taken: the frames to the stuck one are no front of them, so they are a front of those
-- before it.
record Earlier (frames at : List ShippedRecord) (f : ShippedRecord) (rest end : List ℕ) : Type 0 where
  g : ShippedRecord
  more : List ShippedRecord
  parts : at ++ f ∷ [] ≡ frames ++ g ∷ more
  behind : rest ≡ stream_text (g ∷ more) ++ end

module _ (stream : List ℕ) (edition : ℕ) (found all history : List EntryRecord) (frames at : List ShippedRecord) (f : ShippedRecord) (are : AreFirst stream frames) (first : AreFirst stream (at ++ f ∷ []))
    (takes : Takes edition found frames all) (before : Takes edition found at history) (stuck : IsStuck edition history f) where
  earlier : Earlier frames at f are.rest first.rest
  earlier = elim (compare 0 frames (at ++ f ∷ []) are.rest first.rest stream are.stand first.stand are.parts first.parts) [
    | inl longer ↦ cut longer.more longer.parts longer.behind
    | inr shorter ↦ absurd (taken_on edition found history at f shorter.more all before stuck
        (subst (λ (fs : List ShippedRecord). Takes edition found fs all) (shorter.parts ∙ append_assoc at (f ∷ []) shorter.more) takes))
  ]
    where
      cut : (more : List ShippedRecord) → at ++ f ∷ [] ≡ frames ++ more → are.rest ≡ stream_text more ++ first.rest → Earlier frames at f are.rest first.rest
      cut [] parts behind = absurd (taken_on edition found history at f [] all before stuck (subst (λ (fs : List ShippedRecord). Takes edition found fs all) (sym (append-nil frames) ∙ sym parts) takes))
      cut (g ∷ more) parts behind = record { g = g; more = more; parts = parts; behind = behind }

  comes_whole : IsFrame (earlier.g)
  comes_whole = stand_behind 0 frames earlier.g earlier.more (subst (StandFrom 0) earlier.parts first.stand)

  -- so the stream wasn't read to its end, nor is the next frame too long
  not_read : AreWhole stream frames → ⊥
  not_read whole = next_whole earlier.g earlier.more whole.rest first.rest comes_whole (same_rest (stream_text frames) whole.rest are.rest (sym whole.parts ∙ are.parts) ∙ earlier.behind) whole.ends

  not_too_long : (rest : List ℕ) → stream ≡ stream_text frames ++ rest → IsOverlong rest → ⊥
  not_too_long rest parts over = next_allowed earlier.g earlier.more rest first.rest comes_whole (same_rest (stream_text frames) rest are.rest (sym parts ∙ are.parts) ∙ earlier.behind) over

  -- a frame behind those taken, which the history then can't take, is that one, and so is the history
  record SameStop (h : ShippedRecord) : Type 0 where
    frame_is : h ≡ f
    history_is : all ≡ history

  same_stop : (h : ShippedRecord) → AreFirst stream (frames ++ h ∷ []) → IsStuck edition all h → SameStop h
  same_stop h behind stops = elim (compare 0 (frames ++ h ∷ []) (at ++ f ∷ []) behind.rest first.rest stream behind.stand first.stand behind.parts first.parts) [
    | inl longer ↦ by longer.more (longer.parts ∙ append_assoc frames (h ∷ []) longer.more)
    | inr shorter ↦ by_other shorter.more shorter.parts
  ]
    where
      ends : at ++ f ∷ [] ≡ frames ++ h ∷ [] → SameStop h
      ends same =
          let are_same = last at frames f h same in
          record { frame_is = sym are_same.1; history_is = one_taken edition found frames all history takes (subst (λ (fs : List ShippedRecord). Takes edition found fs history) are_same.0 before) }

      -- were the stop before, what the frames up to the later stop make would go past it
      by : (more : List ShippedRecord) → at ++ f ∷ [] ≡ frames ++ h ∷ more → SameStop h
      by [] same = ends same
      by (x ∷ more) same =
          let front = drop_last at frames f h x more same in
          absurd (taken_on edition found all frames h front.0 history takes stops (subst (λ (fs : List ShippedRecord). Takes edition found fs history) front.1 before))

      by_other : (more : List ShippedRecord) → frames ++ h ∷ [] ≡ (at ++ f ∷ []) ++ more → SameStop h
      by_other [] same = ends (sym (append-nil (at ++ f ∷ [])) ∙ sym same)
      by_other (x ∷ more) same =
          let front = drop_last frames at h f x more (same ∙ append_assoc at (f ∷ []) (x ∷ more)) in
          absurd (taken_on edition found history at f front.0 all before stuck (subst (λ (fs : List ShippedRecord). Takes edition found fs all) front.1 takes))

-- what the device spells at the start is what was found
meets : (before : Sight) (edition e : ℕ) (found history : List EntryRecord) (at : List ShippedRecord) → SpellsIn edition found before.bytes → GoesTo before at e history → (e ≡ edition) × Takes edition found at history
meets before edition e found history at spelled goes =
    let same : e ≡ edition = same_edition e edition goes.found found before.bytes goes.spelled spelled in
    let one : goes.found ≡ found = same_history e edition goes.found found before.bytes goes.spelled spelled in
    (same, subst (λ n. Takes n found at history) same (subst (λ (es : List EntryRecord). Takes e es at history) one goes.takes))

undamaged : (old new : Feed) (before after : Sight) (edition : ℕ) (found : List EntryRecord) (end : FollowEnd) (place : ℕ) (why : Damage) → SpellsIn edition found before.bytes → FollowRun true true old new before after (Damaged place why) → ⊥
undamaged old new before after edition found end place why spelled run = not_damaged before.bytes found place why (legal_in edition found before.bytes spelled) (run.damaged refl place why refl)

-- the frames taken at Done and PrintFault are all of the stream
done_whole : (old new : Feed) (before after : Sight) (o : Opened true true old new before after Done) → AreWhole old.left o.follows.frames
done_whole old new before after o = let input : TakesStream old new o.follows.frames Done = o.follows.input refl in all_read old new o.follows.frames input.taken input.moved input.at

print_whole : (old new : Feed) (before after : Sight) (o : Opened true true old new before after PrintFault) → AreWhole old.left o.follows.frames
print_whole old new before after o = let input : TakesStream old new o.follows.frames PrintFault = o.follows.input refl in all_read old new o.follows.frames input.taken input.moved input.at

first_of : (old new : Feed) (before after : Sight) (end : FollowEnd) (o : Opened true true old new before after end) → AreFirst old.left o.follows.frames
first_of old new before after end o = stream_first old new o.follows.frames end (o.follows.input refl)

-- The stream has a frame that can't be taken.
module _ (old new : Feed) (before after : Sight) (frames : List ShippedRecord) (f : ShippedRecord) (first : AreFirst old.left (frames ++ f ∷ [])) (edition : ℕ) (history : List EntryRecord) (goes : GoesTo before frames edition history)
    (stuck : IsStuck edition history f) where
  taken : (end : FollowEnd) (o : Opened true true old new before after end) → Takes o.edition o.found frames history
  taken end o = (meets before o.edition edition o.found history frames (o.spelled refl) goes).1

  stuck_in : (end : FollowEnd) (o : Opened true true old new before after end) → IsStuck o.edition history f
  stuck_in end o = subst (λ n. IsStuck n history f) (meets before o.edition edition o.found history frames (o.spelled refl) goes).0 stuck

  not_done : (o : Opened true true old new before after Done) → ⊥
  not_done o = not_read old.left o.edition o.found o.follows.all history o.follows.frames frames f (first_of old new before after Done o) first o.follows.takes (taken Done o) (stuck_in Done o) (done_whole old new before after o)

  not_printed : (o : Opened true true old new before after PrintFault) → ⊥
  not_printed o = not_read old.left o.edition o.found o.follows.all history o.follows.frames frames f (first_of old new before after PrintFault o) first o.follows.takes (taken PrintFault o) (stuck_in PrintFault o) (print_whole old new before after o)

  not_overlong : (place : ℕ) (o : Opened true true old new before after (BadFrame place)) (rest : List ℕ) → old.left ≡ stream_text o.follows.frames ++ rest → IsOverlong rest → ⊥
  not_overlong place o rest parts over =
      not_too_long old.left o.edition o.found o.follows.all history o.follows.frames frames f (first_of old new before after (BadFrame place) o) first o.follows.takes (taken (BadFrame place) o) (stuck_in (BadFrame place) o) rest parts over

  stops_there : (end : FollowEnd) (o : Opened true true old new before after end) (h : ShippedRecord) → AreFirst old.left (o.follows.frames ++ h ∷ []) → IsStuck o.edition o.follows.all h → (h ≡ f) × (o.follows.all ≡ history)
  stops_there end o h behind stops =
      let same = same_stop old.left o.edition o.found o.follows.all history o.follows.frames frames f (first_of old new before after end o) first o.follows.takes (taken end o) (stuck_in end o) h behind stops in
      (same.frame_is, same.history_is)

module _ (old new : Feed) (before after : Sight) (k : ℕ) (at : IsOtherAt old.left before k) where
  stuck_other : IsStuck at.edition at.history at.f
  stuck_other = other_stuck at.edition at.history at.f at.other

  pub run_other : (end : FollowEnd) → FollowRun true true old new before after end → AnswersOther k end
  run_other Done run = elim run.came [ inl u ↦ absurd u.ends | inr o ↦ not_done old new before after at.frames at.f at.first at.edition at.history at.goes stuck_other o ]
  run_other ReadFault run = tt
  run_other PrintFault run = elim run.came [ inl u ↦ absurd u.ends | inr o ↦ not_printed old new before after at.frames at.f at.first at.edition at.history at.goes stuck_other o ]
  run_other DiskFault run = tt
  run_other (Damaged place why) run = undamaged old new before after at.edition at.goes.found (Damaged place why) place why at.goes.spelled run
  run_other (OtherDay j) run = elim run.came [
    | inl u ↦ absurd u.ends
    | inr o ↦
        let why = o.follows.because in
        let same = stops_there old new before after at.frames at.f at.first at.edition at.history at.goes stuck_other (OtherDay j) o why.f (why.behind.first refl) (other_stuck o.edition o.follows.all why.f why.other) in
        why.number ∙ ap (λ (g : ShippedRecord). g.number) same.0 ∙ sym at.number
  ]
  run_other (BadFrame place) run = elim run.came [
    | inl u ↦ absurd u.ends
    | inr o ↦ elim o.follows.because [
      | inl why ↦
          let same = stops_there old new before after at.frames at.f at.first at.edition at.history at.goes stuck_other (BadFrame place) o why.f (why.behind.first refl) (bad_stuck o.edition o.follows.all why.f why.bad) in
          differ o.edition at.history at.f judged.Bad judged.Other
          (subst (λ (es : List EntryRecord). IsBad o.edition es at.f) same.1 (subst (IsBad o.edition o.follows.all) same.0 why.bad)) at.other (λ is. absurd (cc is))
      | inr why ↦ not_overlong old new before after at.frames at.f at.first at.edition at.history at.goes stuck_other place o why.rest (why.parts refl) why.overlong
    ]
  ]
  run_other LongFile run = tt
  run_other (JournalFull need left) run = tt
  run_other OutOfMemory run = tt

module _ (old new : Feed) (before after : Sight) (place : ℕ) (at : IsBadAt old.left before place) where
  stuck_bad : IsStuck at.edition at.history at.f
  stuck_bad = bad_stuck at.edition at.history at.f at.bad

  pub run_bad : (end : FollowEnd) → FollowRun true true old new before after end → AnswersBad place end
  run_bad Done run = elim run.came [ inl u ↦ absurd u.ends | inr o ↦ not_done old new before after at.frames at.f at.first at.edition at.history at.goes stuck_bad o ]
  run_bad ReadFault run = tt
  run_bad PrintFault run = elim run.came [ inl u ↦ absurd u.ends | inr o ↦ not_printed old new before after at.frames at.f at.first at.edition at.history at.goes stuck_bad o ]
  run_bad DiskFault run = tt
  run_bad (Damaged p why) run = undamaged old new before after at.edition at.goes.found (Damaged p why) p why at.goes.spelled run
  run_bad (OtherDay j) run = elim run.came [
    | inl u ↦ absurd u.ends
    | inr o ↦
        let why = o.follows.because in
        let same = stops_there old new before after at.frames at.f at.first at.edition at.history at.goes stuck_bad (OtherDay j) o why.f (why.behind.first refl) (other_stuck o.edition o.follows.all why.f why.other) in
        differ at.edition at.history at.f judged.Other judged.Bad
        (subst (λ (es : List EntryRecord). IsOther es at.f) same.1 (subst (IsOther o.follows.all) same.0 why.other)) at.bad (λ is. absurd (cc is))
  ]
  run_bad (BadFrame p) run = elim run.came [
    | inl u ↦ absurd u.ends
    | inr o ↦ elim o.follows.because [
      | inl why ↦
          let same = stops_there old new before after at.frames at.f at.first at.edition at.history at.goes stuck_bad (BadFrame p) o why.f (why.behind.first refl) (bad_stuck o.edition o.follows.all why.f why.bad) in
          why.place_is ∙ ap (λ (g : ShippedRecord). g.place) same.0 ∙ sym at.place_is
      | inr why ↦ absurd (not_overlong old new before after at.frames at.f at.first at.edition at.history at.goes stuck_bad p o why.rest (why.parts refl) why.overlong)
    ]
  ]
  run_bad LongFile run = tt
  run_bad (JournalFull need left) run = tt
  run_bad OutOfMemory run = tt

-- The next frame's length is past the limit.
module _ (old new : Feed) (before after : Sight) (place : ℕ) (at : IsOverlongAt old.left before place) where
  -- first frames are a front of those before it
  up_to : (frames : List ShippedRecord) (are : AreFirst old.left frames) → Compared frames at.frames are.rest at.rest
  up_to frames are = elim (compare 0 frames at.frames are.rest at.rest old.left are.stand at.stand are.parts at.parts) [
    | inl longer ↦ longer
    | inr shorter ↦ by shorter.more shorter.parts shorter.behind
  ]
    where
      by : (more : List ShippedRecord) → frames ≡ at.frames ++ more → at.rest ≡ stream_text more ++ are.rest → Compared frames at.frames are.rest at.rest
      by [] parts behind = record { more = []; parts = sym (append-nil at.frames) ∙ sym parts ∙ sym (append-nil frames); behind = sym behind }
      by (g ∷ more) parts behind =
          absurd (next_allowed g more at.rest are.rest (stand_behind 0 at.frames g more (subst (StandFrom 0) parts are.stand)) behind at.overlong)

  -- so the stream wasn't read to its end
  over_unread : (frames : List ShippedRecord) → AreWhole old.left frames → ⊥
  over_unread frames whole =
      let on = up_to frames (record { rest = whole.rest; parts = whole.parts; stand = whole.stand }) in
      by on.more on.parts on.behind
    where
      by : (more : List ShippedRecord) → at.frames ≡ frames ++ more → whole.rest ≡ stream_text more ++ at.rest → ⊥
      by [] parts behind = within_not_overlong whole.rest whole.ends (subst IsOverlong (sym behind) at.overlong)
      by (g ∷ more) parts behind = next_whole g more whole.rest at.rest (stand_behind 0 frames g more (subst (StandFrom 0) parts at.stand)) behind whole.ends

  taken_to : (end : FollowEnd) (o : Opened true true old new before after end) → Takes o.edition o.found at.frames at.history
  taken_to end o = (meets before o.edition at.edition o.found at.history at.frames (o.spelled refl) at.goes).1

  -- no frame before it can't be taken
  over_none : (end : FollowEnd) (o : Opened true true old new before after end) (h : ShippedRecord) → AreFirst old.left (o.follows.frames ++ h ∷ []) → IsStuck o.edition o.follows.all h → ⊥
  over_none end o h behind stops =
      let on = up_to (o.follows.frames ++ h ∷ []) behind in
      taken_on o.edition o.found o.follows.all o.follows.frames h on.more at.history o.follows.takes stops
      (subst (λ (fs : List ShippedRecord). Takes o.edition o.found fs at.history) (on.parts ∙ append_assoc o.follows.frames (h ∷ []) on.more) (taken_to end o))

  over_place : (frames : List ShippedRecord) (rest : List ℕ) → AreFirst old.left frames → old.left ≡ stream_text frames ++ rest → IsOverlong rest → frames ≡ at.frames
  over_place frames rest are parts over =
      let on = up_to frames (record { rest = rest; parts = parts; stand = are.stand }) in
      by on.more on.parts on.behind
    where
      by : (more : List ShippedRecord) → at.frames ≡ frames ++ more → rest ≡ stream_text more ++ at.rest → frames ≡ at.frames
      by [] same behind = sym (append-nil frames) ∙ sym same
      by (g ∷ more) same behind = absurd (next_allowed g more rest at.rest (stand_behind 0 frames g more (subst (StandFrom 0) same at.stand)) behind over)

  pub run_overlong : (end : FollowEnd) → FollowRun true true old new before after end → AnswersBad place end
  run_overlong Done run = elim run.came [ inl u ↦ absurd u.ends | inr o ↦ over_unread o.follows.frames (done_whole old new before after o) ]
  run_overlong ReadFault run = tt
  run_overlong PrintFault run = elim run.came [ inl u ↦ absurd u.ends | inr o ↦ over_unread o.follows.frames (print_whole old new before after o) ]
  run_overlong DiskFault run = tt
  run_overlong (Damaged p why) run = undamaged old new before after at.edition at.goes.found (Damaged p why) p why at.goes.spelled run
  run_overlong (OtherDay j) run = elim run.came [
    | inl u ↦ absurd u.ends
    | inr o ↦
        let why = o.follows.because in
        over_none (OtherDay j) o why.f (why.behind.first refl) (other_stuck o.edition o.follows.all why.f why.other)
  ]
  run_overlong (BadFrame p) run = elim run.came [
    | inl u ↦ absurd u.ends
    | inr o ↦ elim o.follows.because [
      | inl why ↦ absurd (over_none (BadFrame p) o why.f (why.behind.first refl) (bad_stuck o.edition o.follows.all why.f why.bad))
      | inr why ↦
          let same = over_place o.follows.frames why.rest (first_of old new before after (BadFrame p) o) (why.parts refl) why.overlong in
          why.place_is ∙ ap (λ (fs : List ShippedRecord). length (stream_text fs)) same ∙ sym at.place_is
    ]
  ]
  run_overlong LongFile run = tt
  run_overlong (JournalFull need left) run = tt
  run_overlong OutOfMemory run = tt
