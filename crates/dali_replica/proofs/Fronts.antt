-- Frames at the front of bytes: there is one, or none, or one that is too long, and never two of these.
use Rattle.std.proofs.Common.{◌≡◌, ◌⊎◌, ◌∙◌, inl, inr, ℕ, ◌+◌, ◌<◌, List, [], ◌∷◌, ◌++◌, length, take, drop, get_or, refl, sym, ap, subst, arith, append_assoc}
use Rattle.std.specs.Prelude.{◌^◌}
use Rattle.std.specs.Int.{w32, w64, to_be_bytes, from_be_bytes}
use Rattle.std.proofs.lemmas.Bool.{cases_lt}
use Rattle.std.proofs.lemmas.List.{length-append, length-take, length-drop, take_at, drop_at, take-append-drop, get_or-take, get_or-drop, get_or_past}
use Rattle.std.proofs.lemmas.Nat.{be_bytes_4, be_bytes_8, from_be_bytes-to_be_bytes_4, from_be_bytes-to_be_bytes_8}
use Rattle.dali_replica.specs.Frame.{head_text, frame_text, HasHead, EndsWithin, IsOverlong}
use Rattle.dali_replica.specs.Stream.{ShippedRecord, IsFrame, stream_text, StandFrom, HasFrames}

pub head_length : (number size : ℕ) → length (head_text number size) ≡ 12
unfolding head_text
head_length number size = refl

pub frame_length : (number : ℕ) (bytes : List ℕ) → length (frame_text number bytes) ≡ 12 + length bytes
frame_length number bytes = omega (arith, length-append (head_text number (length bytes)) bytes, head_length number (length bytes))

-- what a head says
record Says (number size other length_of : ℕ) : Type 0 where
  number_is : number ≡ other
  size_is : size ≡ length_of

number_front : (number size : ℕ) → take 8 (head_text number size) ≡ to_be_bytes w64 number
unfolding head_text
number_front number size = take_at (to_be_bytes w64 number) (to_be_bytes w32 size) 8 refl

size_behind : (number size : ℕ) → drop 8 (head_text number size) ≡ to_be_bytes w32 size
unfolding head_text
size_behind number size = drop_at (to_be_bytes w64 number) (to_be_bytes w32 size) 8 refl

one_head : (number size other measure : ℕ) → number < 2 ^ 64 → other < 2 ^ 64 → size < 2 ^ 32 → measure < 2 ^ 32 → head_text number size ≡ head_text other measure → Says number size other measure
one_head number size other measure first second third fourth same = record {
  number_is = sym (from_be_bytes-to_be_bytes_8 number first)
      ∙ ap (λ bs. from_be_bytes w64 bs) (sym (number_front number size) ∙ ap (λ bs. take 8 bs) same ∙ number_front other measure)
      ∙ from_be_bytes-to_be_bytes_8 other second;
  size_is = sym (from_be_bytes-to_be_bytes_4 size third)
      ∙ ap (λ bs. from_be_bytes w32 bs) (sym (size_behind number size) ∙ ap (λ bs. drop 8 bs) same ∙ size_behind other measure)
      ∙ from_be_bytes-to_be_bytes_4 measure fourth;
}

-- the head that bytes begin with, and the bytes behind it
pub record SameHead (number size : ℕ) (rest : List ℕ) (other measure : ℕ) (more : List ℕ) : Type 0 where
  pub number_is : number ≡ other
  pub size_is : size ≡ measure
  pub rest_is : rest ≡ more

pub same_head : (number size other measure : ℕ) (rest more bytes : List ℕ) → HasHead number size rest bytes → HasHead other measure more bytes → SameHead number size rest other measure more
same_head number size other measure rest more bytes first second =
    let same : head_text number size ++ rest ≡ head_text other measure ++ more = sym first.whole ∙ second.whole in
    let fronts : head_text number size ≡ head_text other measure =
    sym (take_at (head_text number size) rest 12 (head_length number size)) ∙ ap (λ bs. take 12 bs) same ∙ take_at (head_text other measure) more 12 (head_length other measure) in
    let says = one_head number size other measure first.number_fits second.number_fits first.size_fits second.size_fits fronts in
    record {
      number_is = says.number_is;
      size_is = says.size_is;
      rest_is = sym (drop_at (head_text number size) rest 12 (head_length number size)) ∙ ap (λ bs. drop 12 bs) same ∙ drop_at (head_text other measure) more 12 (head_length other measure);
    }

-- a whole frame at the front of bytes
pub frame_head : (f : ShippedRecord) (rest bytes : List ℕ) → IsFrame f → bytes ≡ frame_text f.number f.bytes ++ rest → HasHead f.number (length f.bytes) (f.bytes ++ rest) bytes
frame_head f rest bytes is parts = record {
  number_fits = is.number;
  size_fits = omega (arith, is.short);
  whole = parts ∙ append_assoc (head_text f.number (length f.bytes)) f.bytes rest;
}

head_short : (number size : ℕ) (rest bytes : List ℕ) → HasHead number size rest bytes → 12 + length rest ≡ length bytes
head_short number size rest bytes head = omega (arith, ap length head.whole, length-append (head_text number size) rest, head_length number size)

pub whole_not_within : (f : ShippedRecord) (rest bytes : List ℕ) → IsFrame f → bytes ≡ frame_text f.number f.bytes ++ rest → EndsWithin bytes → ⊥
whole_not_within f rest bytes is parts (inl few) =
    let long = head_short f.number (length f.bytes) (f.bytes ++ rest) bytes (frame_head f rest bytes is parts) in
    absurd (omega (arith, long, few))
whole_not_within f rest bytes is parts (inr longer) =
    let same = same_head f.number (length f.bytes) longer.number longer.size (f.bytes ++ rest) longer.rest bytes (frame_head f rest bytes is parts) longer.head in
    absurd (omega (arith, same.size_is, ap length same.rest_is, longer.longer, length-append f.bytes rest))

pub whole_not_overlong : (f : ShippedRecord) (rest bytes : List ℕ) → IsFrame f → bytes ≡ frame_text f.number f.bytes ++ rest → IsOverlong bytes → ⊥
whole_not_overlong f rest bytes is parts over =
    let same = same_head f.number (length f.bytes) over.number over.size (f.bytes ++ rest) over.rest bytes (frame_head f rest bytes is parts) over.head in
    absurd (omega (arith, same.size_is, over.over, is.short))

pub within_not_overlong : (bytes : List ℕ) → EndsWithin bytes → IsOverlong bytes → ⊥
within_not_overlong bytes (inl few) over =
    let long = head_short over.number over.size over.rest bytes over.head in
    absurd (omega (arith, long, few))
within_not_overlong bytes (inr longer) over =
    let same = same_head longer.number longer.size over.number over.size longer.rest over.rest bytes longer.head over.head in
    absurd (omega (arith, same.size_is, over.over, longer.allowed))

-- the frame at the front of bytes is one, and so are the bytes behind it
pub record SameFrame (f g : ShippedRecord) (rest more : List ℕ) : Type 0 where
  pub number_is : f.number ≡ g.number
  pub bytes_are : f.bytes ≡ g.bytes
  pub rest_is : rest ≡ more

pub same_frame : (f g : ShippedRecord) (rest more bytes : List ℕ) → IsFrame f → IsFrame g → bytes ≡ frame_text f.number f.bytes ++ rest → bytes ≡ frame_text g.number g.bytes ++ more → SameFrame f g rest more
same_frame f g rest more bytes one two first second =
    let same = same_head f.number (length f.bytes) g.number (length g.bytes) (f.bytes ++ rest) (g.bytes ++ more) bytes (frame_head f rest bytes one first) (frame_head g more bytes two second) in
    record {
      number_is = same.number_is;
      bytes_are = sym (take_at f.bytes rest (length f.bytes) refl) ∙ ap (λ bs. take (length f.bytes) bs) same.rest_is ∙ take_at g.bytes more (length f.bytes) (sym same.size_is);
      rest_is = sym (drop_at f.bytes rest (length f.bytes) refl) ∙ ap (λ bs. drop (length f.bytes) bs) same.rest_is ∙ drop_at g.bytes more (length f.bytes) (sym same.size_is);
    }

abbrev shipped : ℕ → ℕ → List ℕ → ShippedRecord
shipped place number bytes = record { place = place; number = number; bytes = bytes }

shipped_is : (f g : ShippedRecord) → f.place ≡ g.place → f.number ≡ g.number → f.bytes ≡ g.bytes → f ≡ g
shipped_is f g places numbers records =
    ap (λ k. shipped k f.number f.bytes) places ∙ ap (λ k. shipped g.place k f.bytes) numbers ∙ ap (λ (bs : List ℕ). shipped g.place g.number bs) records

none_behind : (rest : List ℕ) → EndsWithin rest ⊎ IsOverlong rest → (f : ShippedRecord) (more : List ℕ) → IsFrame f → rest ≡ frame_text f.number f.bytes ++ more → ⊥
none_behind rest (inl within) f more is parts = whole_not_within f more rest is parts within
none_behind rest (inr over) f more is parts = whole_not_overlong f more rest is parts over

-- two lists of whole frames at the front of the same bytes, behind which no whole frame begins
one_list : (place : ℕ) (frames others : List ShippedRecord) (rest more bytes : List ℕ) → StandFrom place frames → StandFrom place others → bytes ≡ stream_text frames ++ rest → bytes ≡ stream_text others ++ more →
    EndsWithin rest ⊎ IsOverlong rest → EndsWithin more ⊎ IsOverlong more → frames ≡ others
one_list place [] [] rest more bytes first second one two ends stops = refl
one_list place [] (g ∷ others) rest more bytes first second one two ends stops =
    absurd (none_behind rest ends g (stream_text others ++ more) second.1 (sym one ∙ two ∙ append_assoc (frame_text g.number g.bytes) (stream_text others) more))
one_list place (f ∷ frames) [] rest more bytes first second one two ends stops =
    absurd (none_behind more stops f (stream_text frames ++ rest) first.1 (sym two ∙ one ∙ append_assoc (frame_text f.number f.bytes) (stream_text frames) rest))
one_list place (f ∷ frames) (g ∷ others) rest more bytes first second one two ends stops =
    let same = same_frame f g (stream_text frames ++ rest) (stream_text others ++ more) bytes first.1 second.1
    (one ∙ append_assoc (frame_text f.number f.bytes) (stream_text frames) rest) (two ∙ append_assoc (frame_text g.number g.bytes) (stream_text others) more) in
    let is : f ≡ g = shipped_is f g (first.0 ∙ sym second.0) same.number_is same.bytes_are in
    let later = one_list (place + length (frame_text f.number f.bytes)) frames others rest more (stream_text frames ++ rest) first.2
    (subst (λ (h : ShippedRecord). StandFrom (place + length (frame_text h.number h.bytes)) others) (sym is) second.2) refl same.rest_is ends stops in
    ap (λ (h : ShippedRecord). h ∷ frames) is ∙ ap (λ (hs : List ShippedRecord). g ∷ hs) later

-- the whole frames of a stream are one list
pub one_stream : (stream : List ℕ) (frames others : List ShippedRecord) → HasFrames stream frames → HasFrames stream others → frames ≡ others
one_stream stream frames others first second = one_list 0 frames others first.rest second.rest stream first.stand second.stand first.parts second.parts first.no_more second.no_more

-- a head that is read is the head that was written
pub head_again : (bytes : List ℕ) → length bytes ≡ 12 → ((i : ℕ) → get_or bytes i 0 < 256) → head_text (from_be_bytes w64 (take 8 bytes)) (from_be_bytes w32 (drop 8 bytes)) ≡ bytes
unfolding head_text
head_again bytes long small =
    ap (λ (front : List ℕ). front ++ to_be_bytes w32 (from_be_bytes w32 (drop 8 bytes)))
    (be_bytes_8 (take 8 bytes) (from_be_bytes w64 (take 8 bytes)) (omega (arith, length-take 8 bytes, long)) (small_take 8 bytes small) refl)
    ∙ ap (λ (behind : List ℕ). take 8 bytes ++ behind)
    (be_bytes_4 (drop 8 bytes) (from_be_bytes w32 (drop 8 bytes)) (omega (arith, length-drop 8 bytes, long)) (λ i. rw get_or-drop (small (8 + i))) refl)
    ∙ take-append-drop 8 bytes
  where
    small_take : (n : ℕ) (bytes : List ℕ) → ((i : ℕ) → get_or bytes i 0 < 256) → (i : ℕ) → get_or (take n bytes) i 0 < 256
    small_take n bytes h i =
        elim (cases_lt i n) [
          | inl lt ↦ rw (get_or-take n bytes i 0 lt) (h i)
          | inr le ↦ rw (get_or_past (take n bytes) i 0 (omega (arith, length-take n bytes))) (omega arith)
        ]
