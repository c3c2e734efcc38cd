use Rattle.std.specs.Prelude.{◌≡◌, ◌⊎◌, ℕ, ◌+◌, ◌<◌, ◌≤◌, ◌^◌, List, [], ◌∷◌, ◌++◌, length}
use Rattle.dali_replica.specs.Limits.{most_record}
use Rattle.dali_replica.specs.Frame.{frame_text, EndsWithin, IsOverlong}
use Rattle.dali_replica.specs.declared.shipped.Shipped.{Shipped}

-- a frame as it was read: its place, the number of its command, and its record: `place : ℕ`, `number : ℕ`, `bytes : List ℕ`
abbrev pub ShippedRecord : Type 0
ShippedRecord = Shipped

-- a frame that a stream may have: its number and its length can be spelled, and the length is within the limit
pub record IsFrame (f : ShippedRecord) : Type 0 where
  pub number : f.number < 2 ^ 64
  pub short : length f.bytes ≤ most_record

-- the bytes of frames, one right after the other
abbrev pub stream_text : List ShippedRecord → List ℕ
stream_text [] = []
stream_text (f ∷ frames) = frame_text f.number f.bytes ++ stream_text frames

-- frames one right after the other, the first at this place
abbrev pub StandFrom : ℕ → List ShippedRecord → Type 0
StandFrom place [] = Unit {0}
StandFrom place (f ∷ frames) = (f.place ≡ place) × IsFrame f × StandFrom (place + length (frame_text f.number f.bytes)) frames

-- the whole frames at the front of a stream: each stands at its place, and behind the last one no whole frame begins, since
-- the stream ends, or the length of the next frame is more than the limit
pub record HasFrames (stream : List ℕ) (frames : List ShippedRecord) : Type 0 where
  pub rest : List ℕ
  pub parts : stream ≡ stream_text frames ++ rest
  pub stand : StandFrom 0 frames
  pub no_more : EndsWithin rest ⊎ IsOverlong rest
