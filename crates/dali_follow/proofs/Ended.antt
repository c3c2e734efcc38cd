-- How a run ends since its history was found: at a frame that isn't taken, where the reader gives no more, and at the HELD line.
use Rattle.std.proofs.Common.{◌≡◌, ◌∙◌, inl, inr, ℕ, ◌+◌, ◌≤◌, Bool, false, List, [], ◌∷◌, ◌++◌, length, replicate, refl, sym, ap, subst, arith}
use Rattle.std.specs.Prelude.{IsTrue}
use Rattle.dali_entry.specs.EntryRecord.{EntryRecord}
use Rattle.dali_journal.specs.Holds.{HoldsAt}
use Rattle.dali_machine.specs.Machine.{opening}
use Rattle.dali_outside.specs.Outside.{Feed, Sight, Rose, Goes, TellsAll}
use Rattle.dali_outside.specs.Stops.{LeavesOnly}
use Rattle.dali_outside.proofs.Moments.{leaves_on, leaves_weaker}
use Rattle.dali_put.specs.PutRun.{LeavesSome, PrintsSome}
use Rattle.dali_recover.specs.Spells.{records_of, AreEntriesIn}
use Rattle.dali_recover.specs.declared.found.Found.{Found}
use Rattle.dali_recover.proofs.Histories.{reported_more}
use Rattle.dali_replica.specs.Judging.{IsNextBy, IsBad}
use Rattle.dali_replica.specs.Limits.{most_stream}
use Rattle.dali_replica.specs.Reading.{Reader, Gives, Stops, reached}
use Rattle.dali_replica.specs.Stream.{ShippedRecord}
use Rattle.dali_replica.specs.declared.refusal.FrameNo.{FrameNo}
use Rattle.dali_replica.specs.declared.refusal.FrameNo.TheVariants as stream
use Rattle.dali_follow.specs.Ending.{end_of_stream}
use Rattle.dali_follow.specs.FollowRun.{TakesStream, TakenAt, LeavesAt, LeavesHeld, SpellsTaken, PrintsFollow, HasAtRest, ComesBehind, Because, FaultsRose, Follows}
use Rattle.dali_follow.specs.Held.{held_text}
use Rattle.dali_follow.specs.SoFar.{BreaksAdding, TakesNot, Reads, Stands, FollowsAll, PrintsLine}
use Rattle.dali_follow.specs.Takes.{AreFirst}
use Rattle.dali_follow.specs.declared.end.FollowEnd.{FollowEnd}
use Rattle.dali_follow.specs.declared.end.FollowEnd.TheVariants.{Done, ReadFault, PrintFault, DiskFault, Damaged, OtherDay, BadFrame, LongFile, JournalFull, OutOfMemory}
use Rattle.dali_follow.proofs.Standing.{goes_on, rest_image, spells_in, all_taken, all_held, all_legal, append_stops}
use Rattle.dali_follow.proofs.Streams.{whole_first, first_front, reads_more, comes_behind, reads_broken, reads_past, reads_overlong, reads_first}

-- an end that is no fault, while the frames before it stand
abbrev NoFault : FollowEnd → Type 0
NoFault end = (end ≡ ReadFault → ⊥) × (end ≡ PrintFault → ⊥) × (end ≡ DiskFault → ⊥)

quiet : (old new : Feed) (mid after : Sight) (end : FollowEnd) → NoFault end → old.faults ≤ new.faults → Goes mid after → FaultsRose old new mid after end
quiet old new mid after end none faults goes = record {
  read = λ is. absurd (none.0 is);
  print = λ is. absurd (none.1 is);
  disk = λ is. absurd (none.2 is);
  faults = faults;
  goes = goes;
}

module _ (s t : Bool) (old new : Feed) (mid : Sight) (edition : ℕ) (found : List EntryRecord) (frames : List ShippedRecord) (kept : Found) (sight : Sight) (stands : Stands t mid edition found frames kept sight) where
  -- the frames before the end stand, and nothing was printed
  pub still : (end : FollowEnd) → (IsTrue t → LeavesOnly (LeavesAt end edition found frames kept.entries mid.printed) mid sight) → (IsTrue t → PrintsFollow end (length kept.entries) mid.printed sight.printed) →
      (IsTrue s → TakesStream old new frames end) → Because s old mid.size kept.entries frames edition end → FaultsRose old new mid sight end → Follows s t old new mid sight edition found end
  still end since text input because counts = record {
    frames = frames;
    all = kept.entries;
    takes = stands.takes;
    legal = stands.read.read.legal;
    held = subst (λ n. AreEntriesIn n kept.entries) stands.edition_is stands.read.read.entries;
    reported = stands.read.read.reported;
    since = since;
    rest = λ told no. record { tail = kept.journal.tail; rest = stands.rest told };
    text = text;
    input = input;
    because = because;
    counts = counts;
  }

-- The reader gives no more frames.
module _ (s t : Bool) (old : Feed) (mid : Sight) (edition : ℕ) (found : List EntryRecord) (frames : List ShippedRecord) (kept : Found) (sight : Sight) (stands : Stands t mid edition found frames kept sight)
    (reader next : Reader) (feed after : Feed) (reads : Reads s old frames reader feed) (faults : feed.faults ≤ after.faults) where
  grows : old.faults ≤ after.faults
  grows = let before = reads.faults in omega (arith, before, faults)

  pub stream_ended : (e : FrameNo) → Stops s reader.place (reached reader feed) (reached next after) e → (e ≡ stream.ReadFault → Rose feed.faults after.faults) →
      Follows s t old after mid sight edition found (end_of_stream e)
  stream_ended stream.ReadFault stops rose =
      still s t old after mid edition found frames kept sight stands ReadFault stands.stops stands.silent
      (λ told. let breaks = reads_broken s old frames reader next feed after reads faults stops told in record { taken = breaks.0; moved = breaks.1; at = breaks.2; limit = λ others. breaks.3 }) tt
      (record {
        read = λ is. let before = reads.faults in let more = rose refl in omega (arith, before, more);
        print = λ is. absurd (cc is);
        disk = λ is. absurd (cc is);
        faults = grows;
        goes = stands.goes;
      })
  stream_ended (stream.BadLength place) stops rose =
      still s t old after mid edition found frames kept sight stands (BadFrame place) stands.stops stands.silent
      (λ told. let first = reads_first s old frames reader next feed after reads faults stops.1.got told stops.1.gets in record { taken = first.0; moved = first.1; at = first.2; limit = λ others. first.3 })
      (inr (reads_overlong s old frames reader next feed after reads faults place stops.0 stops.1))
      (quiet old after mid sight (BadFrame place) ((λ is. absurd (cc is)), (λ is. absurd (cc is)), (λ is. absurd (cc is))) grows stands.goes)
  stream_ended stream.LongFile stops rose =
      still s t old after mid edition found frames kept sight stands LongFile stands.stops stands.silent
      (λ told. let past = reads_past s old frames reader next feed after reads faults stops told in record { taken = past.0; moved = past.1; at = past.2; limit = λ others. absurd (others refl) }) tt
      (quiet old after mid sight LongFile ((λ is. absurd (cc is)), (λ is. absurd (cc is)), (λ is. absurd (cc is))) grows stands.goes)
  stream_ended stream.OutOfMemory stops rose =
      still s t old after mid edition found frames kept sight stands OutOfMemory stands.stops stands.silent
      (λ told. let first = reads_first s old frames reader next feed after reads faults stops.got told stops.gets in record { taken = first.0; moved = first.1; at = first.2; limit = λ others. first.3 }) tt
      (quiet old after mid sight OutOfMemory ((λ is. absurd (cc is)), (λ is. absurd (cc is)), (λ is. absurd (cc is))) grows stands.goes)

-- A frame that was given isn't taken.
module _ (s t : Bool) (old : Feed) (mid : Sight) (edition : ℕ) (found : List EntryRecord) (frames : List ShippedRecord) (kept : Found) (sight : Sight) (stands : Stands t mid edition found frames kept sight)
    (reader next : Reader) (feed after : Feed) (reads : Reads s old frames reader feed) (faults : feed.faults ≤ after.faults) (f : ShippedRecord) (gives : Gives s f reader next feed after) where
  grows_by : old.faults ≤ after.faults
  grows_by = let before = reads.faults in omega (arith, before, faults)

  behind : ComesBehind s old frames f
  behind = comes_behind s old frames reader next feed after reads faults f gives

  -- the bytes taken begin with the frames before it and with it
  with_it : IsTrue s → (taken : List ℕ) × (old.left ≡ taken ++ after.left) × AreFirst taken (frames ++ f ∷ []) × (length taken ≤ most_stream)
  with_it told =
      let on = reads_more s old frames reader next feed after reads faults f gives in
      (on.got, on.moved told, record { rest = next.pending; parts = on.parts; stand = on.stand }, let most = on.within in omega (arith, most, on.taken))

  input_before : (end : FollowEnd) → ((taken : List ℕ) → AreFirst taken frames → TakenAt end taken after.left frames) → IsTrue s → TakesStream old after frames end
  input_before end at told = let first = with_it told in record { taken = first.0; moved = first.1; at = at first.0 (first_front first.0 frames (f ∷ []) first.2); limit = λ others. first.3 }

  pub frame_ended : (end : FollowEnd) (new : Sight) → TakesNot t f kept sight new end → Follows s t old after mid new edition found end
  frame_ended Done new none = absurd none
  frame_ended ReadFault new none = absurd none
  frame_ended PrintFault new none = absurd none
  frame_ended (Damaged place why) new none = absurd none
  frame_ended LongFile new none = absurd none
  frame_ended DiskFault new denied =
      let adds : BreaksAdding t denied.e kept sight new = denied.why in
      record {
        frames = frames ++ f ∷ [];
        all = kept.entries ++ denied.e ∷ [];
        takes = all_taken t mid edition found frames f kept sight stands denied.e denied.next;
        legal = all_legal t mid edition found frames f kept sight stands denied.e denied.next;
        held = all_held t mid edition found frames f kept sight stands denied.e denied.next;
        reported = reported_more opening kept.entries denied.e stands.read.read.reported adds.reported;
        since = λ told. append_stops t mid edition found frames f kept sight stands denied.e denied.next false new told (adds.appends told);
        rest = λ told no_disk. absurd (no_disk refl);
        text = λ told. adds.silent told ∙ stands.silent told;
        input = λ told. let first = with_it told in record { taken = first.0; moved = first.1; at = first.2; limit = λ others. first.3 };
        because = tt;
        counts = record {
          read = λ is. absurd (cc is);
          print = λ is. absurd (cc is);
          disk = λ is. let rose = adds.rose in let low = stands.goes.disk in omega (arith, rose, low);
          faults = grows_by;
          goes = goes_on mid sight new stands.goes adds.goes;
        };
      }
  frame_ended (OtherDay k) new denied =
      subst (λ (x : Sight). Follows s t old after mid x edition found (OtherDay k)) (sym denied.2)
      (still s t old after mid edition found frames kept sight stands (OtherDay k) stands.stops stands.silent
      (input_before (OtherDay k) (λ taken first. first))
      (record { f = f; behind = behind; other = denied.1; number = denied.0 })
      (quiet old after mid sight (OtherDay k) ((λ is. absurd (cc is)), (λ is. absurd (cc is)), (λ is. absurd (cc is))) grows_by stands.goes))
  frame_ended (BadFrame place) new denied =
      subst (λ (x : Sight). Follows s t old after mid x edition found (BadFrame place)) (sym denied.2)
      (still s t old after mid edition found frames kept sight stands (BadFrame place) stands.stops stands.silent
      (input_before (BadFrame place) (λ taken first. first))
      (inl (record { f = f; behind = behind; bad = subst (λ n. IsBad n kept.entries f) stands.edition_is denied.1; place_is = denied.0 }))
      (quiet old after mid sight (BadFrame place) ((λ is. absurd (cc is)), (λ is. absurd (cc is)), (λ is. absurd (cc is))) grows_by stands.goes))
  frame_ended (JournalFull need left) new denied =
      let short = denied.why in
      subst (λ (x : Sight). Follows s t old after mid x edition found (JournalFull need left)) (sym short.same)
      (still s t old after mid edition found frames kept sight stands (JournalFull need left) stands.stops stands.silent
      (input_before (JournalFull need left) (λ taken first. first))
      (record {
        f = f;
        behind = behind;
        entry = denied.e;
        next = subst (λ n. IsNextBy n kept.entries f denied.e) stands.edition_is denied.next;
        need_is = let next = denied.next in short.need_is ∙ ap (λ (bs : List ℕ). length bs + 6) (sym next.goes_on.record_is.text);
        left_is = let at = stands.read.read in omega (arith, short.left_is, at.place, at.whole);
        short = short.short;
      })
      (quiet old after mid sight (JournalFull need left) ((λ is. absurd (cc is)), (λ is. absurd (cc is)), (λ is. absurd (cc is))) grows_by stands.goes))
  frame_ended OutOfMemory new denied =
      subst (λ (x : Sight). Follows s t old after mid x edition found OutOfMemory) (sym denied)
      (still s t old after mid edition found frames kept sight stands OutOfMemory stands.stops stands.silent
      (input_before OutOfMemory (λ taken first. first)) tt
      (quiet old after mid sight OutOfMemory ((λ is. absurd (cc is)), (λ is. absurd (cc is)), (λ is. absurd (cc is))) grows_by stands.goes))

-- The HELD line, once all whole frames were taken.
module _ (s t : Bool) (old new : Feed) (mid : Sight) (edition : ℕ) (found : List EntryRecord) (kept : Found) (before after : Sight) (follows : FollowsAll s t old new mid edition found kept before) (tells : IsTrue t → TellsAll before) where
  stands_then : Stands t mid edition found follows.frames kept before
  stands_then = follows.stands

  since_held : (IsTrue t → LeavesOnly (LeavesSome before (held_text (length kept.entries))) before after) → IsTrue t →
      LeavesOnly (LeavesHeld edition found follows.frames kept.entries mid.printed) mid after
  since_held stops told =
      leaves_on (LeavesHeld edition found follows.frames kept.entries mid.printed) mid before
      (leaves_weaker (SpellsTaken edition found follows.frames mid.printed) (LeavesHeld edition found follows.frames kept.entries mid.printed) mid before (λ image text is. inl is) (stands_then.stops told))
      after
      (leaves_weaker (LeavesSome before (held_text (length kept.entries))) (LeavesHeld edition found follows.frames kept.entries mid.printed) before after shows (stops told))
    where
      shows : (image text : List ℕ) → LeavesSome before (held_text (length kept.entries)) image text → LeavesHeld edition found follows.frames kept.entries mid.printed image text
      shows image text some =
          let at = stands_then.rest told in
          let same : image ≡ before.bytes = rest_image kept.journal.tail edition (records_of kept.entries) before image (tells told) at some.disk in
          inr (record {
            spells = spells_in edition kept.entries image (subst (λ n. AreEntriesIn n kept.entries) stands_then.edition_is stands_then.read.read.entries) stands_then.read.read.legal
                (record { tail = kept.journal.tail; at = subst (HoldsAt kept.journal.tail edition (records_of kept.entries)) (sym same) at.holds });
            shown = subst (λ (bs : List ℕ). PrintsSome (held_text (length kept.entries)) bs text) (stands_then.silent told) some.printed;
          })

  rest_too : (put : IsTrue t → (after.bytes ≡ before.bytes) × (after.loose ≡ before.loose)) → IsTrue t → HasAtRest edition kept.entries after
  rest_too put told =
      let at = stands_then.rest told in
      let same = put told in
      record {
        tail = kept.journal.tail;
        rest = record {
          holds = subst (HoldsAt kept.journal.tail edition (records_of kept.entries)) (sym same.0) at.holds;
          firm = same.1 ∙ at.firm ∙ ap (λ (ls : List Bool). replicate (length ls) false) (sym same.1);
        };
      }

  printed_all : (end : FollowEnd) → (IsTrue t → LeavesOnly (LeavesAt end edition found follows.frames kept.entries mid.printed) mid after) → (IsTrue t → HasAtRest edition kept.entries after) →
      (IsTrue t → PrintsFollow end (length kept.entries) mid.printed after.printed) → (IsTrue s → TakesStream old new follows.frames end) → Because s old mid.size kept.entries follows.frames edition end →
      FaultsRose old new mid after end → Follows s t old new mid after edition found end
  printed_all end since rest text input because counts = record {
    frames = follows.frames;
    all = kept.entries;
    takes = stands_then.takes;
    legal = stands_then.read.read.legal;
    held = subst (λ n. AreEntriesIn n kept.entries) stands_then.edition_is stands_then.read.read.entries;
    reported = stands_then.read.read.reported;
    since = since;
    rest = λ told no. rest told;
    text = text;
    input = input;
    because = because;
    counts = counts;
  }

  pub line_ended : (end : FollowEnd) → PrintsLine t (length kept.entries) before after end → Follows s t old new mid after edition found end
  line_ended Done run =
      printed_all Done (since_held run.stops) (rest_too (λ told. ((run.disk told).bytes, (run.disk told).loose)))
      (λ told. run.text_at told ∙ ap (λ (bs : List ℕ). bs ++ held_text (length kept.entries)) (stands_then.silent told))
      (λ told. let whole = follows.whole told in record { taken = whole.taken; moved = whole.moved; at = whole.all; limit = λ others. whole.all.limit }) tt
      (quiet old new mid after Done ((λ is. absurd (cc is)), (λ is. absurd (cc is)), (λ is. absurd (cc is))) follows.faults (goes_on mid before after stands_then.goes run.goes))
  line_ended PrintFault run =
      printed_all PrintFault (since_held run.stops) (rest_too (λ told. ((run.disk told).bytes, (run.disk told).loose)))
      (λ told. subst (λ (bs : List ℕ). PrintsSome (held_text (length kept.entries)) bs after.printed) (stands_then.silent told) (run.text_at told))
      (λ told. let whole = follows.whole told in record { taken = whole.taken; moved = whole.moved; at = whole.all; limit = λ others. whole.all.limit }) tt
      (record {
        read = λ is. absurd (cc is);
        print = λ is. let rose = run.print_fault refl in let low = stands_then.goes.print in omega (arith, rose, low);
        disk = λ is. absurd (cc is);
        faults = follows.faults;
        goes = goes_on mid before after stands_then.goes run.goes;
      })
  line_ended OutOfMemory same =
      subst (λ (x : Sight). Follows s t old new mid x edition found OutOfMemory) (sym same)
      (still s t old new mid edition found follows.frames kept before stands_then OutOfMemory stands_then.stops stands_then.silent
      (λ told. let whole = follows.whole told in record { taken = whole.taken; moved = whole.moved; at = whole_first whole.taken follows.frames whole.all.all; limit = λ others. whole.all.limit }) tt
      (quiet old new mid before OutOfMemory ((λ is. absurd (cc is)), (λ is. absurd (cc is)), (λ is. absurd (cc is))) follows.faults stands_then.goes))
  line_ended ReadFault none = absurd none
  line_ended DiskFault none = absurd none
  line_ended (Damaged place why) none = absurd none
  line_ended (OtherDay k) none = absurd none
  line_ended (BadFrame place) none = absurd none
  line_ended LongFile none = absurd none
  line_ended (JournalFull need left) none = absurd none
