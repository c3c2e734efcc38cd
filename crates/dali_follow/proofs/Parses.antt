-- The frames that bytes begin with are one list, and those of a shipped stream are the history's.
use Rattle.std.proofs.Common.{◌≡◌, ◌∙◌, inl, ℕ, ◌+◌, ◌<◌, ◌≤◌, List, [], ◌∷◌, ◌++◌, length, refl, sym, ap, subst, arith, append_assoc, append-nil}
use Rattle.std.specs.Prelude.{◌^◌, ◌-◌}
use Rattle.std.specs.List.{All}
use Rattle.std.proofs.lemmas.List.Elements.{All-nil, All-cons, All-head, All-tail}
use Rattle.dali_entry.specs.EntryRecord.{EntryRecord}
use Rattle.dali_record.specs.RecordText.{record_text}
use Rattle.dali_replica.specs.Frame.{frame_text, EndsWithin, IsOverlong}
use Rattle.dali_replica.specs.Limits.{most_record}
use Rattle.dali_replica.specs.Shipping.{IsFrameOf, IsShipped, frames_from, frames_of, shipped}
use Rattle.dali_replica.specs.Stream.{ShippedRecord, IsFrame, stream_text, StandFrom, HasFrames}
use Rattle.dali_replica.proofs.Fronts.{same_frame, whole_not_within, whole_not_overlong, within_not_overlong}
use Rattle.dali_follow.specs.Takes.{AreFirst}
use Rattle.dali_follow.proofs.Takings.{Front}

abbrev frame_at : ℕ → ℕ → List ℕ → ShippedRecord
frame_at place number bytes = record { place = place; number = number; bytes = bytes }

pub frame_is : (f g : ShippedRecord) → f.place ≡ g.place → f.number ≡ g.number → f.bytes ≡ g.bytes → f ≡ g
frame_is f g places numbers records =
    ap (λ k. frame_at k f.number f.bytes) places ∙ ap (λ k. frame_at g.place k f.bytes) numbers ∙ ap (λ (bs : List ℕ). frame_at g.place g.number bs) records

-- first frames of bytes are the first of all whole ones, and what is behind them is the others
record Parsed (frames whole : List ShippedRecord) (rest end : List ℕ) : Type 0 where
  more : List ShippedRecord
  parts : whole ≡ frames ++ more
  behind : rest ≡ stream_text more ++ end

parse : (place : ℕ) (frames whole : List ShippedRecord) (rest end bytes : List ℕ) → StandFrom place frames → StandFrom place whole → bytes ≡ stream_text frames ++ rest → bytes ≡ stream_text whole ++ end → EndsWithin end →
    Parsed frames whole rest end
parse place [] whole rest end bytes first second one two within = record { more = whole; parts = refl; behind = sym one ∙ two }
parse place (f ∷ frames) [] rest end bytes first second one two within =
    absurd (whole_not_within f (stream_text frames ++ rest) end first.1 (sym two ∙ one ∙ append_assoc (frame_text f.number f.bytes) (stream_text frames) rest) within)
parse place (f ∷ frames) (g ∷ whole) rest end bytes first second one two within =
    let same = same_frame f g (stream_text frames ++ rest) (stream_text whole ++ end) bytes first.1 second.1
    (one ∙ append_assoc (frame_text f.number f.bytes) (stream_text frames) rest) (two ∙ append_assoc (frame_text g.number g.bytes) (stream_text whole) end) in
    let is : f ≡ g = frame_is f g (first.0 ∙ sym second.0) same.number_is same.bytes_are in
    let later = parse (place + length (frame_text f.number f.bytes)) frames whole rest end (stream_text frames ++ rest) first.2
    (subst (λ (h : ShippedRecord). StandFrom (place + length (frame_text h.number h.bytes)) whole) (sym is) second.2) refl same.rest_is within in
    record {
      more = later.more;
      parts = ap (λ (h : ShippedRecord). h ∷ whole) (sym is) ∙ ap (λ (hs : List ShippedRecord). f ∷ hs) later.parts;
      behind = later.behind;
    }

all_front : {X : Type 0} (P : X → Type 0) (xs ys : List X) → All P (xs ++ ys) → All P xs
all_front P [] ys all = All-nil P
all_front P (x ∷ xs) ys all = All-cons P x xs (All-head P x (xs ++ ys) all) (all_front P xs ys (All-tail P x (xs ++ ys) all))

stand_there : (place : ℕ) (xs : List ShippedRecord) (g : ShippedRecord) (ys : List ShippedRecord) → StandFrom place (xs ++ g ∷ ys) → IsFrame g
stand_there place [] g ys stand = stand.1
stand_there place (x ∷ xs) g ys stand = stand_there (place + length (frame_text x.number x.bytes)) xs g ys stand.2

module _ (history : List EntryRecord) (stream : List ℕ) (ships : IsShipped history stream) where
  parsed : (frames : List ShippedRecord) (are : AreFirst stream frames) → Parsed frames ships.frames are.rest ships.rest
  parsed frames are = parse 0 frames ships.frames are.rest ships.rest stream are.stand ships.stand are.parts ships.parts ships.ends

  -- first frames of a shipped stream are the history's
  pub first_shipped : (frames : List ShippedRecord) → AreFirst stream frames → Front frames ships.frames
  first_shipped frames are = let p = parsed frames are in record { rest = p.more; parts = p.parts }

  pub frames_are : (frames : List ShippedRecord) → AreFirst stream frames → All (IsFrameOf history) frames
  frames_are frames are = let p = parsed frames are in all_front (IsFrameOf history) frames p.more (subst (All (IsFrameOf history)) p.parts ships.each)

  -- and no length in it is too long
  pub none_overlong : (frames : List ShippedRecord) (rest : List ℕ) → AreFirst stream frames → stream ≡ stream_text frames ++ rest → IsOverlong rest → ⊥
  none_overlong frames rest are parts over =
      let p = parse 0 frames ships.frames rest ships.rest stream are.stand ships.stand parts ships.parts ships.ends in
      within p.more p.parts p.behind
    where
      within : (more : List ShippedRecord) → ships.frames ≡ frames ++ more → rest ≡ stream_text more ++ ships.rest → ⊥
      within [] parts_are behind = within_not_overlong ships.rest ships.ends (subst IsOverlong behind over)
      within (g ∷ more) parts_are behind =
          whole_not_overlong g (stream_text more ++ ships.rest) rest
          (stand_there 0 frames g more (subst (StandFrom 0) parts_are ships.stand))
          (behind ∙ append_assoc (frame_text g.number g.bytes) (stream_text more) ships.rest) over

  pub shipped_whole : HasFrames stream ships.frames
  shipped_whole = record { rest = ships.rest; parts = ships.parts; stand = ships.stand; no_more = inl ships.ends }

-- ---- all frames of a history, in order

stand_from : (number place : ℕ) (entries : List EntryRecord) → number + length entries < 2 ^ 64 → All (λ (e : EntryRecord). length (record_text e) ≤ most_record) entries → StandFrom place (frames_from number place entries)
stand_from number place [] few short = tt
stand_from number place (e ∷ entries) few short = (
  refl,
  record { number = omega (arith, few); short = All-head (λ (x : EntryRecord). length (record_text x) ≤ most_record) e entries short },
  stand_from (number + 1) (place + length (frame_text number (record_text e))) entries (omega (arith, few)) (All-tail (λ (x : EntryRecord). length (record_text x) ≤ most_record) e entries short),
)

pub whole_from : (stream : List ℕ) (entries : List EntryRecord) → stream ≡ shipped entries → length entries < 2 ^ 64 - 1 → All (λ (e : EntryRecord). length (record_text e) ≤ most_record) entries →
    HasFrames stream (frames_of entries)
whole_from stream entries is few short = record {
  rest = [];
  parts = is ∙ sym (append-nil (stream_text (frames_of entries)));
  stand = stand_from 1 0 entries (omega (arith, few)) short;
  no_more = inl (inl (omega arith));
}
