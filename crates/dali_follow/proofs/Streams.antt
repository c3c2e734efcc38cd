-- How far a stream was read: one more frame, and where the reader gives no more.
use Rattle.std.proofs.Common.{◌≡◌, ◌∙◌, inl, ℕ, ◌+◌, ◌≤◌, Bool, false, List, [], ◌∷◌, ◌++◌, length, refl, sym, ap, arith, append_assoc, append-nil}
use Rattle.std.specs.Prelude.{IsTrue}
use Rattle.std.proofs.lemmas.List.{length-append}
use Rattle.dali_outside.specs.Outside.{Feed}
use Rattle.dali_replica.specs.Frame.{head_text, frame_text, IsOverlong}
use Rattle.dali_replica.specs.Limits.{most_stream}
use Rattle.dali_replica.specs.Reading.{Reader, Gets, Gives, Ends, BreaksOff, FindsOverlong, PassesLimit, reached}
use Rattle.dali_replica.specs.Stream.{ShippedRecord, IsFrame, stream_text, StandFrom, HasFrames}
use Rattle.dali_follow.specs.FollowRun.{PastLimit, ComesBehind, NextIsOverlong}
use Rattle.dali_follow.specs.SoFar.{Reads, ReadsWhole}
use Rattle.dali_follow.specs.Takes.{AreFirst, AreWhole}

pub stream_more : (frames : List ShippedRecord) (f : ShippedRecord) → stream_text (frames ++ f ∷ []) ≡ stream_text frames ++ frame_text f.number f.bytes
stream_more [] f = append-nil (frame_text f.number f.bytes)
stream_more (x ∷ frames) f =
    ap (λ (bs : List ℕ). frame_text x.number x.bytes ++ bs) (stream_more frames f) ∙ sym (append_assoc (frame_text x.number x.bytes) (stream_text frames) (frame_text f.number f.bytes))

pub stand_more : (place : ℕ) (frames : List ShippedRecord) (f : ShippedRecord) → StandFrom place frames → f.place ≡ place + length (stream_text frames) → IsFrame f → StandFrom place (frames ++ f ∷ [])
stand_more place [] f stand at is = (omega (arith, at), is, tt)
stand_more place (x ∷ frames) f stand at is =
    (stand.0, stand.1, stand_more (place + length (frame_text x.number x.bytes)) frames f stand.2 (omega (arith, at, length-append (frame_text x.number x.bytes) (stream_text frames))) is)

pub stand_front : (place : ℕ) (frames more : List ShippedRecord) → StandFrom place (frames ++ more) → StandFrom place frames
stand_front place [] more stand = tt
stand_front place (x ∷ frames) more stand = (stand.0, stand.1, stand_front (place + length (frame_text x.number x.bytes)) frames more stand.2)

pub stream_append : (frames more : List ShippedRecord) → stream_text (frames ++ more) ≡ stream_text frames ++ stream_text more
stream_append [] more = refl
stream_append (x ∷ frames) more =
    ap (λ (bs : List ℕ). frame_text x.number x.bytes ++ bs) (stream_append frames more) ∙ sym (append_assoc (frame_text x.number x.bytes) (stream_text frames) (stream_text more))

-- the first of some first frames
pub first_front : (stream : List ℕ) (frames more : List ShippedRecord) → AreFirst stream (frames ++ more) → AreFirst stream frames
first_front stream frames more are = record {
  rest = stream_text more ++ are.rest;
  parts = are.parts ∙ ap (λ (bs : List ℕ). bs ++ are.rest) (stream_append frames more) ∙ append_assoc (stream_text frames) (stream_text more) are.rest;
  stand = stand_front 0 frames more are.stand;
}

-- in a longer stream too
pub first_longer : (stream front left : List ℕ) (frames : List ShippedRecord) → stream ≡ front ++ left → AreFirst front frames → AreFirst stream frames
first_longer stream front left frames longer are = record {
  rest = are.rest ++ left;
  parts = longer ∙ ap (λ (bs : List ℕ). bs ++ left) are.parts ∙ append_assoc (stream_text frames) are.rest left;
  stand = are.stand;
}

pub whole_first : (stream : List ℕ) (frames : List ShippedRecord) → AreWhole stream frames → AreFirst stream frames
whole_first stream frames has = record { rest = has.rest; parts = has.parts; stand = has.stand }

pub whole_has : (stream : List ℕ) (frames : List ShippedRecord) → AreWhole stream frames → HasFrames stream frames
whole_has stream frames are = record { rest = are.rest; parts = are.parts; stand = are.stand; no_more = inl are.ends }

pub over_longer : (bytes left : List ℕ) → IsOverlong bytes → IsOverlong (bytes ++ left)
over_longer bytes left over = record {
  number = over.number;
  size = over.size;
  rest = over.rest ++ left;
  head = record {
    number_fits = over.head.number_fits;
    size_fits = over.head.size_fits;
    whole = ap (λ (bs : List ℕ). bs ++ left) over.head.whole ∙ append_assoc (head_text over.number over.size) over.rest left;
  };
  over = over.over;
}

-- nothing was read yet
pub reads_start : (told : Bool) (feed : Feed) → Reads told feed [] (record { place = 0; pending = []; taken = 0; over = false }) feed
reads_start told feed = record {
  got = [];
  moved = λ t. refl;
  parts = refl;
  stand = tt;
  place = refl;
  taken = refl;
  within = omega arith;
  more = refl;
  faults = omega arith;
}

-- a front of bytes, and what was got behind it
grown : (s p g t q got : List ℕ) → got ≡ s ++ p → p ++ g ≡ t ++ q → got ++ g ≡ (s ++ t) ++ q
grown s p g t q got first second = ap (λ (bs : List ℕ). bs ++ g) first ∙ append_assoc s p g ∙ ap (λ (bs : List ℕ). s ++ bs) second ∙ sym (append_assoc s t q)

moved_on : (all got g middle left : List ℕ) → all ≡ got ++ middle → middle ≡ g ++ left → all ≡ (got ++ g) ++ left
moved_on all got g middle left first second = first ∙ ap (λ (bs : List ℕ). got ++ bs) second ∙ sym (append_assoc got g left)

module _ (told : Bool) (old : Feed) (frames : List ShippedRecord) (reader next : Reader) (feed after : Feed) (reads : Reads told old frames reader feed) (faults : feed.faults ≤ after.faults) where
  -- one more frame was given
  pub reads_more : (f : ShippedRecord) → Gives told f reader next feed after → Reads told old (frames ++ f ∷ []) next after
  reads_more f gives = record {
    got = reads.got ++ gives.meets.got;
    moved = λ t. moved_on old.left reads.got gives.meets.got feed.left after.left (reads.moved t) (gives.meets.gets.moved t);
    parts = grown (stream_text frames) reader.pending gives.meets.got (frame_text f.number f.bytes) next.pending reads.got reads.parts gives.meets.parted
        ∙ ap (λ (bs : List ℕ). bs ++ next.pending) (sym (stream_more frames f));
    stand = stand_more 0 frames f reads.stand (omega (arith, gives.place_is, reads.place)) gives.meets.is_frame;
    place = omega (arith, gives.place_on, reads.place, ap length (stream_more frames f), length-append (stream_text frames) (frame_text f.number f.bytes));
    taken = omega (arith, gives.meets.gets.taken, reads.taken, length-append reads.got gives.meets.got);
    within = gives.meets.gets.within;
    more = gives.more;
    faults = let before = reads.faults in omega (arith, before, faults);
  }

  -- it comes behind those given before
  pub comes_behind : (f : ShippedRecord) → Gives told f reader next feed after → ComesBehind told old frames f
  comes_behind f gives =
      let on = reads_more f gives in
      record {
        first = λ t. record { rest = next.pending ++ after.left; parts = on.moved t ∙ ap (λ (bs : List ℕ). bs ++ after.left) on.parts ∙ append_assoc (stream_text (frames ++ f ∷ [])) next.pending after.left; stand = on.stand };
        place_is = gives.place_is ∙ reads.place;
      }

  -- what was taken, with some bytes got behind what is pending
  behind : (g : List ℕ) → reads.got ++ g ≡ stream_text frames ++ (reader.pending ++ g)
  behind g = ap (λ (bs : List ℕ). bs ++ g) reads.parts ∙ append_assoc (stream_text frames) reader.pending g

  -- the end of input was met
  pub reads_whole : Ends told reader next feed after → IsTrue told → ReadsWhole old after frames
  reads_whole ends t = record {
    taken = reads.got ++ ends.meets.got;
    moved = moved_on old.left reads.got ends.meets.got feed.left after.left (reads.moved t) (ends.meets.gets.moved t);
    all = record {
      end = ends.meets.end t;
      limit = omega (arith, ends.meets.gets.taken, ends.meets.gets.within, reads.taken, length-append reads.got ends.meets.got);
      all = record { rest = reader.pending ++ ends.meets.got; parts = behind ends.meets.got; stand = reads.stand; ends = ends.meets.within };
    };
  }

  -- a take failed
  pub reads_broken : BreaksOff told (reached reader feed) (reached next after) → IsTrue told → (taken : List ℕ) × (old.left ≡ taken ++ after.left) × AreWhole taken frames × (length taken ≤ most_stream)
  reads_broken breaks t = (
    reads.got ++ breaks.got,
    moved_on old.left reads.got breaks.got feed.left after.left (reads.moved t) (breaks.gets.moved t),
    record { rest = reader.pending ++ breaks.got; parts = behind breaks.got; stand = reads.stand; ends = breaks.within },
    omega (arith, breaks.gets.taken, breaks.gets.within, reads.taken, length-append reads.got breaks.got),
  )

  -- a byte past the limit was taken
  pub reads_past : PassesLimit told (reached reader feed) (reached next after) → IsTrue told → (taken : List ℕ) × (old.left ≡ taken ++ after.left) × PastLimit taken frames
  reads_past passes t = (
    reads.got ++ (passes.got ++ passes.past ∷ []),
    moved_on old.left reads.got (passes.got ++ passes.past ∷ []) feed.left after.left (reads.moved t) (passes.moved t),
    record {
      within = reads.got ++ passes.got;
      past = passes.past;
      parts = sym (append_assoc reads.got passes.got (passes.past ∷ []));
      limit = omega (arith, passes.limit, reads.taken, length-append reads.got passes.got);
      all = record { rest = reader.pending ++ passes.got; parts = behind passes.got; stand = reads.stand; ends = passes.within };
    },
  )

  -- the next frame is too long
  pub reads_overlong : (place : ℕ) → place ≡ reader.place → FindsOverlong told (reached reader feed) (reached next after) → NextIsOverlong told old frames place
  reads_overlong place at finds = record {
    place_is = at ∙ reads.place;
    rest = (reader.pending ++ finds.got) ++ after.left;
    parts = λ t. moved_on old.left reads.got finds.got feed.left after.left (reads.moved t) (finds.gets.moved t) ∙ ap (λ (bs : List ℕ). bs ++ after.left) (behind finds.got)
        ∙ append_assoc (stream_text frames) (reader.pending ++ finds.got) after.left;
    overlong = over_longer (reader.pending ++ finds.got) after.left finds.overlong;
  }

  -- these are the first frames of what was taken
  pub reads_first : (g : List ℕ) → IsTrue told → Gets told (reached reader feed) g (reached next after) → (taken : List ℕ) × (old.left ≡ taken ++ after.left) × AreFirst taken frames × (length taken ≤ most_stream)
  reads_first g t gets = (
    reads.got ++ g,
    moved_on old.left reads.got g feed.left after.left (reads.moved t) (gets.moved t),
    record { rest = reader.pending ++ g; parts = behind g; stand = reads.stand },
    omega (arith, gets.taken, gets.within, reads.taken, length-append reads.got g),
  )
