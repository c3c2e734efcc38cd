use Rattle.std.proofs.Common.{◌≡◌, ◌≢◌, ◌∙◌, inl, inr, ℕ, ◌+◌, ◌-◌, ◌≤◌, ◌<◌, ◌^◌, List, [], ◌∷◌, ◌++◌, length, take, drop, slice_index, slice_range, refl, sym, ap, subst, arith, append_assoc, append-nil}
use Rattle.std.specs.Int.{w32, from_be_bytes, to_be_bytes}
use Rattle.std.proofs.lemmas.List.{take_at, drop_at, length-append, drop_more}
use Rattle.std.proofs.lemmas.List.Folds.{drop_split}
use Rattle.std.proofs.Math.Seq.{drop-append-add}
use Rattle.dali_outside.specs.Outside.{overlay}
use Rattle.dali_journal.specs.Holds.{head_text, IsHeader, gated, AreRecords, StandsTo, HoldsAt}
use Rattle.dali_journal.specs.JournalAt.{IsTooLong, Finds, HeadsPayload}
use Rattle.dali_journal.specs.Frames.{open_records, AreFrames, AreShort}

pub header_length : (edition : ℕ) (header : List ℕ) → IsHeader edition header → length header ≡ 16
header_length edition header is =
    let whole : length header ≡ length head_text + length (is.marks ++ 1 ∷ []) = ap length is.whole ∙ length-append head_text (is.marks ++ 1 ∷ []) in
    let marks : length (is.marks ++ 1 ∷ []) ≡ length is.marks + 1 = length-append is.marks (1 ∷ []) in
    let text : length head_text ≡ 12 = refl in
    omega (arith, whole, marks, is.three, text)

pub records_append : (list more : List (List ℕ)) (body behind : List ℕ) → AreRecords list body → AreRecords more behind → AreRecords (list ++ more) (body ++ behind)
records_append [] more body behind none are = subst (λ bs. AreRecords more (bs ++ behind)) (sym none) are
records_append (payload ∷ list) more body behind first are =
    let gate = first.0 in
    let rest = first.3 in (
      gate,
      first.1,
      first.2,
      rest ++ behind,
      ap (λ bs. bs ++ behind) first.4 ∙ append_assoc (gated gate payload) rest behind,
      records_append list more rest behind first.5 are,
    )

pub open_are : (list : List (List ℕ)) → AreShort list → AreRecords list (open_records list)
open_are [] short = refl
open_are (payload ∷ list) short = (1, (λ e. absurd (omega (arith, e))), short.0, open_records list, refl, open_are list short.1)

-- frames behind a gate that isn't 0 are records and a closed gate
pub record Opened (more : List (List ℕ)) (gate : ℕ) (frames : List ℕ) : Type 0 where
  pub records : List ℕ
  pub are : AreRecords more records
  pub whole : gate ∷ frames ≡ records ++ 0 ∷ []

pub opened : (more : List (List ℕ)) (frames : List ℕ) (gate : ℕ) → AreFrames more frames → AreShort more → gate ≢ 0 → Opened more gate frames
opened [] frames gate are short set = absurd (omega (arith, ap (λ xs. slice_index xs 0) are))
opened (payload ∷ more) frames gate are short set =
    let behind = to_be_bytes w32 (length payload) ++ payload in
    record {
      records = gated gate payload ++ open_records more;
      are = (gate, set, short.0, open_records more, refl, open_are more short.1);
      whole = ap (λ xs. gate ∷ drop 1 xs) are;
    }

module _ (tail edition : ℕ) (list : List (List ℕ)) (bytes : List ℕ) where
  -- one more record
  pub one_more : (payload : List ℕ) (new : ℕ) → StandsTo tail edition list bytes → Finds payload bytes tail new → StandsTo new edition (list ++ payload ∷ []) bytes
  one_more payload new to finds =
      let sixteen = header_length edition to.header to.is_header in
      let front : length (to.header ++ to.body) ≡ tail = omega (arith, length-append to.header to.body, sixteen, to.place) in
      let rest : drop tail bytes ≡ to.rest =
      ap (λ bs. drop tail bs) (to.whole ∙ sym (append_assoc to.header to.body to.rest)) ∙ drop_at (to.header ++ to.body) to.rest tail front in
      let one : AreRecords (payload ∷ []) (gated finds.gate payload) = (finds.gate, finds.is_open, finds.short, [], sym (append-nil (gated finds.gate payload)), refl) in
      let be = to_be_bytes w32 (length payload) in
      let four : length be ≡ 4 = refl in
      let long : length (be ++ payload) ≡ length be + length payload = length-append be payload in
      let whole_body : length (to.body ++ gated finds.gate payload) ≡ length to.body + length (gated finds.gate payload) = length-append to.body (gated finds.gate payload) in
      record {
        header = to.header;
        is_header = to.is_header;
        body = to.body ++ gated finds.gate payload;
        records = records_append list (payload ∷ []) to.body (gated finds.gate payload) to.records one;
        rest = drop new bytes;
        place = omega (arith, finds.moved, to.place, whole_body, long, four);
        whole = to.whole ∙ ap (λ bs. to.header ++ (to.body ++ bs)) (sym rest ∙ finds.stands) ∙ ap (λ bs. to.header ++ bs) (sym (append_assoc to.body (gated finds.gate payload) (drop new bytes)));
      }

  -- the gate at the tail is closed
  pub no_more : StandsTo tail edition list bytes → tail < length bytes → slice_index bytes tail ≡ 0 → HoldsAt tail edition list bytes
  no_more to within shut =
      let sixteen = header_length edition to.header to.is_header in
      let front : length (to.header ++ to.body) ≡ tail = omega (arith, length-append to.header to.body, sixteen, to.place) in
      let rest : drop tail bytes ≡ to.rest =
      ap (λ bs. drop tail bs) (to.whole ∙ sym (append_assoc to.header to.body to.rest)) ∙ drop_at (to.header ++ to.body) to.rest tail front in
      let gate : drop tail bytes ≡ slice_index bytes tail ∷ drop (tail + 1) bytes = drop_more bytes tail 0 (omega (arith, within)) in
      record {
        header = to.header;
        is_header = to.is_header;
        body = to.body;
        records = to.records;
        free = drop (tail + 1) bytes;
        place = to.place;
        whole = to.whole ∙ ap (λ bs. to.header ++ (to.body ++ bs)) (sym rest ∙ gate ∙ ap (λ b. b ∷ drop (tail + 1) bytes) shut);
      }

pub overlay_seam : {X : Type 0} → (xs ys zs : List X) (n : ℕ) → length xs ≡ n → overlay (xs ++ ys) n zs ≡ xs ++ (zs ++ drop (length zs) ys)
overlay_seam xs ys zs n is =
    ap (λ front. front ++ (zs ++ drop (n + length zs) (xs ++ ys))) (take_at xs ys n is)
    ∙ ap (λ k. xs ++ (zs ++ drop (k + length zs) (xs ++ ys))) (sym is)
    ∙ ap (λ behind. xs ++ (zs ++ behind)) (drop-append-add xs ys (length zs))

-- what a payload's head and its bytes say together
pub found : (bytes payload : List ℕ) (tail : ℕ) → tail < length bytes → length payload < 2 ^ 32 → HeadsPayload (length payload) tail bytes →
    payload ≡ slice_range bytes (tail + 5) (tail + 5 + length payload) → Finds payload bytes tail (tail + (length payload + 5))
found bytes payload tail within short heads is =
    let n = length payload in
    let gate : drop tail bytes ≡ slice_index bytes tail ∷ drop (tail + 1) bytes = drop_more bytes tail 0 (omega (arith, within)) in
    let head : drop (tail + 1) bytes ≡ slice_range bytes (tail + 1) (tail + 5) ++ drop (tail + 5) bytes = drop_split bytes (tail + 1) (tail + 5) (omega arith) in
    let rest : drop (tail + 5) bytes ≡ slice_range bytes (tail + 5) (tail + 5 + n) ++ drop (tail + 5 + n) bytes = drop_split bytes (tail + 5) (tail + 5 + n) (omega arith) in
    let place : tail + 5 + n ≡ tail + (n + 5) = omega arith in
    record {
      gate = slice_index bytes tail;
      is_open = heads.is_open;
      short = short;
      stands = gate ∙ ap (λ bs. slice_index bytes tail ∷ bs) (head ∙ ap (λ bs. bs ++ drop (tail + 5) bytes) heads.length_is
          ∙ ap (λ bs. to_be_bytes w32 n ++ bs) (rest ∙ ap (λ bs. bs ++ drop (tail + 5 + n) bytes) (sym is) ∙ ap (λ k. payload ++ drop k bytes) place)
          ∙ sym (append_assoc (to_be_bytes w32 n) payload (drop (tail + (n + 5)) bytes)));
      moved = refl;
    }

-- the first byte of a part, and the others
pub part_gate : (bytes : List ℕ) (tail : ℕ) → tail + 5 ≤ length bytes → slice_index (slice_range bytes tail (tail + 5)) 0 ≡ slice_index bytes tail
part_gate bytes tail fits =
    let gate : drop tail bytes ≡ slice_index bytes tail ∷ drop (tail + 1) bytes = drop_more bytes tail 0 (omega (arith, fits)) in
    let five : tail + 5 - tail ≡ 5 = omega arith in
    ap (λ k. slice_index (take k (drop tail bytes)) 0) five ∙ ap (λ bs. slice_index (take 5 bs) 0) gate

pub part_rest : (bytes : List ℕ) (tail : ℕ) → tail + 5 ≤ length bytes → drop 1 (slice_range bytes tail (tail + 5)) ≡ slice_range bytes (tail + 1) (tail + 5)
part_rest bytes tail fits =
    let gate : drop tail bytes ≡ slice_index bytes tail ∷ drop (tail + 1) bytes = drop_more bytes tail 0 (omega (arith, fits)) in
    let five : tail + 5 - tail ≡ 5 = omega arith in
    let four : 4 ≡ tail + 5 - (tail + 1) = omega arith in
    ap (λ k. drop 1 (take k (drop tail bytes))) five ∙ ap (λ bs. drop 1 (take 5 bs)) gate ∙ ap (λ k. take k (drop (tail + 1) bytes)) four

-- five bytes at an open gate whose length doesn't fit
pub too_long : (size tail left : ℕ) (bytes head : List ℕ) → tail + left ≡ size → tail + 5 ≤ length bytes → head ≡ slice_range bytes tail (tail + 5) →
    slice_index head 0 ≢ 0 → left < from_be_bytes w32 (drop 1 head) + 6 → IsTooLong size tail bytes
too_long size tail left bytes head at fits is set long =
    let value : from_be_bytes w32 (drop 1 head) ≡ from_be_bytes w32 (slice_range bytes (tail + 1) (tail + 5)) =
    ap (λ bs. from_be_bytes w32 (drop 1 bs)) is ∙ ap (λ bs. from_be_bytes w32 bs) (part_rest bytes tail fits) in (
      (λ shut. set (ap (λ bs. slice_index bs 0) is ∙ part_gate bytes tail fits ∙ shut)),
      inr (omega (arith, at, long, value)),
    )

-- a length that fits isn't too long
pub not_too_long : (size tail left len : ℕ) (bytes : List ℕ) → tail + left ≡ size → len + 6 ≤ left → HeadsPayload len tail bytes → IsTooLong size tail bytes → ⊥
not_too_long size tail left len bytes at fits heads long = elim long.1 [
  | inl short ↦ absurd (omega (arith, at, fits, short))
  | inr short ↦ absurd (omega (arith, at, fits, short, heads.value))
]
