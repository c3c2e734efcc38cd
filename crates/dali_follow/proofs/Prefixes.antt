-- What every stop leaves, where every image at the start spells a legal history.
use Rattle.std.proofs.Common.{◌≡◌, ◌∙◌, inl, inr, ℕ, true, List, [], ◌∷◌, ◌++◌, length, refl, sym, ap, subst, append_assoc, append-nil}
use Rattle.dali_entry.specs.EntryRecord.{EntryRecord}
use Rattle.dali_outside.specs.Outside.{Feed, Sight, TellsAll, now}
use Rattle.dali_outside.specs.Stops.{MayLeave}
use Rattle.dali_outside.proofs.Images.{own_left}
use Rattle.dali_outside.proofs.Moments.{leaves_on, leaves_weaker, keeps_now}
use Rattle.dali_put.specs.PutRun.{PrintsSome}
use Rattle.dali_replica.specs.Stream.{ShippedRecord}
use Rattle.dali_upkeep.specs.RaiseRun.{EachAtStart, EachSince, SpellsOne, BeginsWith}
use Rattle.dali_upkeep.proofs.Editing.{in_edition, legal_in}
use Rattle.dali_recover.proofs.Spelling.{one_history}
use Rattle.dali_follow.specs.FollowPrefix.{KeepsTaken, FollowPrefix}
use Rattle.dali_follow.specs.FollowRun.{ReadsAll, TakenAt, TakesStream, SpellsTaken, ShowsHeld, LeavesHeld, LeavesAt, Opened, FollowRun}
use Rattle.dali_follow.specs.Held.{held_text}
use Rattle.dali_follow.specs.Takes.{AreFirst, AreWhole}
use Rattle.dali_follow.specs.declared.end.FollowEnd.{FollowEnd}
use Rattle.dali_follow.specs.declared.end.FollowEnd.TheVariants.{Done, ReadFault, PrintFault, DiskFault, Damaged, OtherDay, BadFrame, LongFile, JournalFull, OutOfMemory}
use Rattle.dali_follow.proofs.Standing.{take_none}
use Rattle.dali_follow.proofs.Streams.{first_front, first_longer, whole_first}
use Rattle.dali_follow.proofs.Takings.{takes_front}

-- ---- the frames taken are the first of the stream, and all of them where the HELD line is printed

first_at : (end : FollowEnd) (taken left : List ℕ) (frames : List ShippedRecord) → TakenAt end taken left frames → AreFirst taken frames
first_at Done taken left frames at = whole_first taken frames at.all
first_at ReadFault taken left frames at = whole_first taken frames at
first_at PrintFault taken left frames at = whole_first taken frames at.all
first_at DiskFault taken left frames at = at
first_at (Damaged place why) taken left frames at = absurd at
first_at (OtherDay k) taken left frames at = at
first_at (BadFrame place) taken left frames at = at
first_at LongFile taken left frames at = first_longer taken at.within (at.past ∷ []) frames at.parts (whole_first at.within frames at.all)
first_at (JournalFull need left_over) taken left frames at = at
first_at OutOfMemory taken left frames at = at

pub stream_first : (old new : Feed) (frames : List ShippedRecord) (end : FollowEnd) → TakesStream old new frames end → AreFirst old.left frames
stream_first old new frames end input = first_longer old.left input.taken new.left frames input.moved (first_at end input.taken new.left frames input.at)

pub all_read : (old new : Feed) (frames : List ShippedRecord) (taken : List ℕ) → old.left ≡ taken ++ new.left → ReadsAll taken new.left frames → AreWhole old.left frames
all_read old new frames taken moved all =
    subst (λ (bs : List ℕ). AreWhole bs frames) (sym (moved ∙ ap (λ (bs : List ℕ). taken ++ bs) all.end ∙ append-nil taken)) all.all

-- ---- what a stop leaves

pub kept_start : (stream : List ℕ) (before : Sight) → EachAtStart before SpellsOne → (image text : List ℕ) → MayLeave (now before) image text → KeepsTaken stream before image text
kept_start stream before premise image text left =
    let one : SpellsOne image = premise image text left in
    record {
      start = image;
      start_text = text;
      left = left;
      edition = one.legal.spells.edition;
      found = one.history;
      spelled = in_edition image one;
      frames = [];
      first = record { rest = stream; parts = refl; stand = tt };
      history = one.history;
      takes = refl;
      spells = in_edition image one;
      text_is = inl (left.printed ∙ ap (λ (bs : List ℕ). before.printed ++ bs) (take_none left.n) ∙ append-nil before.printed);
    }

module _ (old new : Feed) (before after : Sight) (end : FollowEnd) (tells : TellsAll before) (o : Opened true true old new before after end) where
  kept_taken : (image text : List ℕ) → SpellsTaken o.edition o.found o.follows.frames o.mid.printed image text → KeepsTaken old.left before image text
  kept_taken image text is = record {
    start = before.bytes;
    start_text = before.printed;
    left = own_left before tells;
    edition = o.edition;
    found = o.found;
    spelled = o.spelled refl;
    frames = is.first;
    first = first_front old.left is.first is.rest (subst (AreFirst old.left) is.parts (stream_first old new o.follows.frames end (o.follows.input refl)));
    history = is.history;
    takes = is.takes;
    spells = is.spells;
    text_is = inl (is.silent ∙ (o.finds refl).silent);
  }

  kept_held : AreWhole old.left o.follows.frames → (image text : List ℕ) → ShowsHeld o.edition o.follows.all o.mid.printed image text → KeepsTaken old.left before image text
  kept_held whole image text is = record {
    start = before.bytes;
    start_text = before.printed;
    left = own_left before tells;
    edition = o.edition;
    found = o.found;
    spelled = o.spelled refl;
    frames = o.follows.frames;
    first = whole_first old.left o.follows.frames whole;
    history = o.follows.all;
    takes = o.follows.takes;
    spells = is.spells;
    text_is = inr (record { whole = whole; shown = subst (λ (bs : List ℕ). PrintsSome (held_text (length o.follows.all)) bs text) (o.finds refl).silent is.shown });
  }

  kept_either : AreWhole old.left o.follows.frames → (image text : List ℕ) → LeavesHeld o.edition o.found o.follows.frames o.follows.all o.mid.printed image text → KeepsTaken old.left before image text
  kept_either whole image text (inl is) = kept_taken image text is
  kept_either whole image text (inr is) = kept_held whole image text is

  -- all frames at the two ends that come after the last one
  whole_at : (taken : List ℕ) → old.left ≡ taken ++ new.left → ReadsAll taken new.left o.follows.frames → AreWhole old.left o.follows.frames
  whole_at taken moved all = all_read old new o.follows.frames taken moved all

-- by the end
kept_at : (old new : Feed) (before after : Sight) (end : FollowEnd) (tells : TellsAll before) (o : Opened true true old new before after end) (image text : List ℕ) →
    LeavesAt end o.edition o.found o.follows.frames o.follows.all o.mid.printed image text → KeepsTaken old.left before image text
kept_at old new before after Done tells o image text is =
    let input : TakesStream old new o.follows.frames Done = o.follows.input refl in kept_either old new before after Done tells o (whole_at old new before after Done tells o input.taken input.moved input.at) image text is
kept_at old new before after PrintFault tells o image text is =
    let input : TakesStream old new o.follows.frames PrintFault = o.follows.input refl in kept_either old new before after PrintFault tells o (whole_at old new before after PrintFault tells o input.taken input.moved input.at) image text is
kept_at old new before after ReadFault tells o image text is = kept_taken old new before after ReadFault tells o image text is
kept_at old new before after DiskFault tells o image text is = kept_taken old new before after DiskFault tells o image text is
kept_at old new before after (Damaged place why) tells o image text is = kept_taken old new before after (Damaged place why) tells o image text is
kept_at old new before after (OtherDay k) tells o image text is = kept_taken old new before after (OtherDay k) tells o image text is
kept_at old new before after (BadFrame place) tells o image text is = kept_taken old new before after (BadFrame place) tells o image text is
kept_at old new before after LongFile tells o image text is = kept_taken old new before after LongFile tells o image text is
kept_at old new before after (JournalFull need left) tells o image text is = kept_taken old new before after (JournalFull need left) tells o image text is
kept_at old new before after OutOfMemory tells o image text is = kept_taken old new before after OutOfMemory tells o image text is

pub run_prefix : (old new : Feed) (before after : Sight) (end : FollowEnd) → EachAtStart before SpellsOne → FollowRun true true old new before after end → FollowPrefix old.left before after
run_prefix old new before after end premise run = elim run.came [
  | inl u ↦ leaves_weaker (MayLeave (now before)) (KeepsTaken old.left before) before after (kept_start old.left before premise) (u.stops refl)
  | inr o ↦ leaves_on (KeepsTaken old.left before) before o.mid
      (leaves_weaker (MayLeave (now before)) (KeepsTaken old.left before) before o.mid (kept_start old.left before premise) (o.finds refl).stops) after
      (leaves_weaker (LeavesAt end o.edition o.found o.follows.frames o.follows.all o.mid.printed) (KeepsTaken old.left before) o.mid after (kept_at old new before after end (run.told refl) o) (o.follows.since refl))
]

-- ---- what follows of it

-- the history of the start goes on in the image's
kept_begins : (stream : List ℕ) (before : Sight) (front : List EntryRecord) (image text : List ℕ) → EachAtStart before (BeginsWith front) → KeepsTaken stream before image text → BeginsWith front image
kept_begins stream before front image text premise kept =
    let first : BeginsWith front kept.start = premise kept.start kept.start_text kept.left in
    let same : kept.found ≡ first.history = one_history kept.start kept.found first.history (legal_in kept.edition kept.found kept.start kept.spelled).spells first.legal.spells in
    let on = takes_front kept.edition kept.found kept.frames kept.history kept.takes in
    record {
      history = kept.history;
      legal = legal_in kept.edition kept.history image kept.spells;
      rest = first.rest ++ on.rest;
      parts = on.parts ∙ ap (λ (es : List EntryRecord). es ++ on.rest) (same ∙ first.parts) ∙ append_assoc front first.rest on.rest;
    }

pub run_begins : (stream : List ℕ) (before after : Sight) (front : List EntryRecord) → FollowPrefix stream before after → EachAtStart before (BeginsWith front) → EachSince before after (BeginsWith front)
run_begins stream before after front prefix premise image text left = kept_begins stream before front image text premise (prefix.each image text left)

-- the premise holds at the end as well
pub run_again : (stream : List ℕ) (before after : Sight) → FollowPrefix stream before after → EachAtStart after SpellsOne
run_again stream before after prefix image text left =
    let kept : KeepsTaken stream before image text = keeps_now (KeepsTaken stream before) before after prefix image text left in
    record { history = kept.history; legal = legal_in kept.edition kept.history image kept.spells }
