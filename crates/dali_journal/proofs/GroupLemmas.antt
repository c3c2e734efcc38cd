use Rattle.std.proofs.Common.{◌≡◌, ◌≢◌, ◌∙◌, ℕ, suc, ◌+◌, ◌-◌, ◌≤◌, ◌<◌, ◌^◌, List, [], ◌∷◌, ◌++◌, length, take, drop, map, refl, sym, ap, arith, append_assoc, append-nil}
use Rattle.std.specs.Int.{w32, to_be_bytes}
use Rattle.std.proofs.lemmas.List.{take_at, drop_at, take_all, length-append, length-drop, drop-drop, map-append}
use Rattle.dali_journal.specs.Holds.{gated}
use Rattle.dali_journal.specs.Frames.{frame_of, payload_of, open_records, AreFrames, AreShort, frames_length}
use Rattle.dali_journal.specs.GroupText.{payloads}

pub payloads_length : (lens text : List ℕ) → length (payloads lens text) ≡ length lens
payloads_length [] text = refl
payloads_length (n ∷ lens) text = ap suc (payloads_length lens (drop (n + 5) text))

gated_length : (payload : List ℕ) → length (gated 1 payload) ≡ length payload + 5
gated_length payload =
    let four : length (to_be_bytes w32 (length payload)) ≡ 4 = refl in
    let long : length (to_be_bytes w32 (length payload) ++ payload) ≡ length (to_be_bytes w32 (length payload)) + length payload = length-append (to_be_bytes w32 (length payload)) payload in
    omega (arith, four, long)

pub records_length : (list : List (List ℕ)) → length (open_records list) ≡ frames_length list
records_length [] = refl
records_length (payload ∷ list) =
    let both : length (gated 1 payload ++ open_records list) ≡ length (gated 1 payload) + length (open_records list) = length-append (gated 1 payload) (open_records list) in
    omega (arith, both, gated_length payload, records_length list)

open_more : (list : List (List ℕ)) (payload : List ℕ) → open_records (list ++ payload ∷ []) ≡ open_records list ++ gated 1 payload
open_more [] payload = append-nil (gated 1 payload)
open_more (first ∷ list) payload = ap (λ bs. gated 1 first ++ bs) (open_more list payload) ∙ sym (append_assoc (gated 1 first) (open_records list) (gated 1 payload))

-- the lengths cut the payloads out again
cut : (list : List (List ℕ)) (rest : List ℕ) → payloads (map length list) (open_records list ++ rest) ≡ list
cut [] rest = refl
cut (payload ∷ list) rest =
    let n = length payload in
    let text = (gated 1 payload ++ open_records list) ++ rest in
    let behind : drop 5 text ≡ payload ++ (open_records list ++ rest) = append_assoc payload (open_records list) rest in
    let first : take n (drop 5 text) ≡ payload = ap (λ bs. take n bs) behind ∙ take_at payload (open_records list ++ rest) n refl in
    let five : n + 5 ≡ 5 + n = omega arith in
    let others : drop (n + 5) text ≡ open_records list ++ rest =
    ap (λ k. drop k text) five ∙ sym (drop-drop n 5 text) ∙ ap (λ bs. drop n bs) behind ∙ drop_at payload (open_records list ++ rest) n refl in
    ap (λ p. p ∷ payloads (map length list) (drop (n + 5) text)) first
    ∙ ap (λ bs. payload ∷ payloads (map length list) bs) others
    ∙ ap (λ ps. payload ∷ ps) (cut list rest)

-- the fields of a group stand for this list
pub record Stands (lens text : List ℕ) (list : List (List ℕ)) : Type 0 where
  pub lengths : lens ≡ map length list
  pub records : text ≡ open_records list ++ 0 ∷ []
  pub short : AreShort list

pub shown : (lens text : List ℕ) (list : List (List ℕ)) → Stands lens text list → payloads lens text ≡ list
shown lens text list stands =
    ap (λ ls. payloads ls text) stands.lengths ∙ ap (λ bs. payloads (map length list) bs) stands.records ∙ cut list (0 ∷ [])

short_more : (list : List (List ℕ)) (payload : List ℕ) → AreShort list → length payload < 2 ^ 32 → AreShort (list ++ payload ∷ [])
short_more [] payload short one = (one, tt)
short_more (first ∷ list) payload short one = (short.0, short_more list payload short.1 one)

pub stands_more : (lens text : List ℕ) (list : List (List ℕ)) (payload : List ℕ) → Stands lens text list → length payload ≤ 204 →
    Stands (lens ++ length payload ∷ []) ((open_records list ++ gated 1 payload) ++ 0 ∷ []) (list ++ payload ∷ [])
stands_more lens text list payload stands le = record {
  lengths = ap (λ ls. ls ++ length payload ∷ []) stands.lengths ∙ sym (map-append length list (payload ∷ []));
  records = ap (λ bs. bs ++ 0 ∷ []) (sym (open_more list payload));
  short = short_more list payload stands.short (omega (arith, le));
}

pub stands_none : Stands [] (0 ∷ []) []
stands_none = record { lengths = refl; records = refl; short = tt }

pub text_length : (list : List (List ℕ)) (text : List ℕ) → text ≡ open_records list ++ 0 ∷ [] → length text ≡ frames_length list + 1
text_length list text is =
    let both : length (open_records list ++ 0 ∷ []) ≡ length (open_records list) + 1 = length-append (open_records list) (0 ∷ []) in
    omega (arith, ap length is, both, records_length list)

-- what stands behind the first gate
pub frames_are : (list : List (List ℕ)) (text : List ℕ) → list ≢ [] → text ≡ open_records list ++ 0 ∷ [] → AreFrames list (take (length text - 1) (drop 1 text))
frames_are [] text filled is = absurd (filled refl)
frames_are (payload ∷ list) text filled is =
    let rest : length (drop 1 text) ≡ length text - 1 = length-drop 1 text in
    ap (λ bs. 1 ∷ bs) (take_all (length text - 1) (drop 1 text) (omega (arith, rest))) ∙ ap (λ bs. 1 ∷ drop 1 bs) is

pub frames_long : (list : List (List ℕ)) (text : List ℕ) → text ≡ open_records list ++ 0 ∷ [] → length (take (length text - 1) (drop 1 text)) ≡ frames_length list
frames_long list text is =
    let rest : length (drop 1 text) ≡ length text - 1 = length-drop 1 text in
    let whole : length (take (length text - 1) (drop 1 text)) ≡ length (drop 1 text) = ap length (take_all (length text - 1) (drop 1 text) (omega (arith, rest))) in
    omega (arith, rest, whole, text_length list text is)

-- one payload's frame
pub frame_are : (payload frame : List ℕ) → frame ≡ frame_of payload → AreFrames (payload ∷ []) frame
frame_are payload frame is =
    let be = to_be_bytes w32 (length payload) in
    ap (λ bs. 1 ∷ bs) (is ∙ sym (append_assoc be payload (0 ∷ []))) ∙ ap (λ bs. bs ++ 0 ∷ []) (sym (append-nil (gated 1 payload)))

-- a frame is five bytes longer than its payload
frame_length : (payload : List ℕ) → length (frame_of payload) ≡ length payload + 5
frame_length payload =
    let closed : length (payload ++ 0 ∷ []) ≡ length payload + 1 = length-append payload (0 ∷ []) in
    let four : length (to_be_bytes w32 (length payload)) ≡ 4 = refl in
    let both : length (frame_of payload) ≡ length (to_be_bytes w32 (length payload)) + length (payload ++ 0 ∷ []) = length-append (to_be_bytes w32 (length payload)) (payload ++ 0 ∷ []) in
    omega (arith, closed, four, both)

-- a frame that isn't too long is that of a payload whose length fits in its four bytes
pub framed_short : (frame : List ℕ) → frame ≡ frame_of (payload_of frame) → length frame ≤ 536870917 → AreShort (payload_of frame ∷ [])
framed_short frame is short =
    let long : length frame ≡ length (frame_of (payload_of frame)) = ap length is in
    (omega (arith, long, frame_length (payload_of frame), short), tt)
