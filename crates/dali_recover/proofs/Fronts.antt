-- Of two lists of payloads that stand in the same bytes, one is a front of the other.
use Rattle.std.proofs.Common.{◌≡◌, ◌≢◌, Bool, true, false, nat_lt, ◌⊎◌, ◌∙◌, inl, inr, ℕ, ◌+◌, ◌-◌, ◌<◌, ◌≤◌, ◌^◌, List, [], ◌∷◌, ◌++◌, length, take, drop, slice_index, slice_range, refl, sym, ap, subst, arith, append_assoc, append-nil}
use Rattle.std.specs.Int.{w32, from_be_bytes, to_be_bytes}
use Rattle.std.proofs.lemmas.List.{take_at, drop_at, drop-drop, length-append, length-drop, drop_more}
use Rattle.std.proofs.lemmas.Bool.{ltb-true, ltb-false}
use Rattle.std.proofs.lemmas.Nat.{from_be_bytes-to_be_bytes_4}
use Rattle.dali_journal.specs.Holds.{head_text, IsHeader, gated, AreRecords, StandsTo, HoldsAt, Holds}
use Rattle.dali_journal.specs.JournalAt.{IsTooLong, Finds, HeadsPayload}
use Rattle.dali_journal.specs.Frames.{frames_length}
use Rattle.dali_journal.proofs.OneList.{payload_one, header_one}
use Rattle.dali_journal.proofs.RecordLemmas.{header_length}

-- one list goes on where the other ends
pub record GoesOn {X : Type 0} (front whole : List X) : Type 0 where
  pub more : List X
  pub parts : whole ≡ front ++ more

two_fronts : (list other : List (List ℕ)) (body behind rest free : List ℕ) → AreRecords list body → AreRecords other behind → body ++ rest ≡ behind ++ free →
    GoesOn list other ⊎ GoesOn other list
two_fronts [] other body behind rest free first second is = inl (record { more = other; parts = refl })
two_fronts (p ∷ list) [] body behind rest free first second is = inr (record { more = p ∷ list; parts = refl })
two_fronts (p ∷ list) (q ∷ other) body behind rest free first second is =
    let bytes : gated first.0 p ++ (first.3 ++ rest) ≡ gated second.0 q ++ (second.3 ++ free) =
    sym (append_assoc (gated first.0 p) first.3 rest) ∙ sym (ap (λ bs. bs ++ rest) first.4) ∙ is
    ∙ ap (λ bs. bs ++ free) second.4 ∙ append_assoc (gated second.0 q) second.3 free in
    let both = payload_one first.0 second.0 p q (first.3 ++ rest) (second.3 ++ free) first.2 second.2 bytes in
    elim (two_fronts list other first.3 second.3 rest free first.5 second.5 both.1) [
      | inl on ↦ inl (record { more = on.more; parts = ap (λ x. x ∷ other) (sym both.0) ∙ ap (λ xs. p ∷ xs) on.parts })
      | inr on ↦ inr (record { more = on.more; parts = ap (λ x. x ∷ list) both.0 ∙ ap (λ xs. q ∷ xs) on.parts })
    ]

-- two journals in the same bytes have one edition, and the list of one goes on where that of the other ends
pub one_front : (p q e f : ℕ) (list other : List (List ℕ)) (bytes : List ℕ) → StandsTo p e list bytes → StandsTo q f other bytes →
    (e ≡ f) × (GoesOn list other ⊎ GoesOn other list)
one_front p q e f list other bytes a b =
    let whole : a.header ++ (a.body ++ a.rest) ≡ b.header ++ (b.body ++ b.rest) = sym a.whole ∙ b.whole in
    let a_long = header_length e a.header a.is_header in
    let b_long = header_length f b.header b.is_header in
    let header : a.header ≡ b.header = sym (take_at a.header (a.body ++ a.rest) 16 a_long) ∙ ap (λ bs. take 16 bs) whole ∙ take_at b.header (b.body ++ b.rest) 16 b_long in
    let rest : a.body ++ a.rest ≡ b.body ++ b.rest = sym (drop_at a.header (a.body ++ a.rest) 16 a_long) ∙ ap (λ bs. drop 16 bs) whole ∙ drop_at b.header (b.body ++ b.rest) 16 b_long in
    (header_one e f b.header (subst (IsHeader e) header a.is_header) b.is_header, two_fronts list other a.body b.body a.rest b.rest a.records b.records rest)

-- the bytes of records
body_length : (list : List (List ℕ)) (body : List ℕ) → AreRecords list body → length body ≡ frames_length list
body_length [] body are = ap length are
body_length (p ∷ list) body are =
    let be = to_be_bytes w32 (length p) in
    let four : length be ≡ 4 = refl in
    omega (arith, ap length are.4, length-append (gated are.0 p) are.3, length-append be p, four, body_length list are.3 are.5)

-- where the records end
pub tail_is : (tail edition : ℕ) (list : List (List ℕ)) (bytes : List ℕ) → StandsTo tail edition list bytes → tail ≡ 16 + frames_length list
tail_is tail edition list bytes to = omega (arith, to.place, body_length list to.body to.records)

-- the bytes from the tail on are the rest
pub rest_is : (tail edition : ℕ) (list : List (List ℕ)) (bytes : List ℕ) (to : StandsTo tail edition list bytes) → drop tail bytes ≡ to.rest
rest_is tail edition list bytes to =
    let sixteen = header_length edition to.header to.is_header in
    ap (λ bs. drop tail bs) (to.whole ∙ sym (append_assoc to.header to.body to.rest))
    ∙ drop_at (to.header ++ to.body) to.rest tail (omega (arith, length-append to.header to.body, sixteen, to.place))

-- what held ends with stands up to there
abbrev pub held_stands : (tail edition : ℕ) (list : List (List ℕ)) (bytes : List ℕ) → HoldsAt tail edition list bytes → StandsTo tail edition list bytes
held_stands tail edition list bytes at = record {
  header = at.header;
  is_header = at.is_header;
  body = at.body;
  records = at.records;
  rest = 0 ∷ at.free;
  place = at.place;
  whole = at.whole;
}

-- a byte of a list is the first of what is left from it on
pub first_left : (bytes : List ℕ) (place : ℕ) (b : ℕ) (rest : List ℕ) → drop place bytes ≡ b ∷ rest → (place < length bytes) × (slice_index bytes place ≡ b)
first_left bytes place b rest is =
    let long : length (drop place bytes) ≡ length (b ∷ rest) = ap length is in
    let within : place < length bytes = omega (arith, long, length-drop place bytes) in
    (within, sym (ap (λ xs. slice_index xs 0) (drop_more bytes place 0 within)) ∙ ap (λ xs. slice_index xs 0) is)

-- the records in front of one, that one, and those behind it
record Parted (front : List (List ℕ)) (payload : List ℕ) (more : List (List ℕ)) (body : List ℕ) : Type 0 where
  pub first : List ℕ
  pub gate : ℕ
  pub is_open : gate ≢ 0
  pub short : length payload < 2 ^ 32
  pub rest : List ℕ
  pub before : AreRecords front first
  pub later : AreRecords more rest
  pub whole : body ≡ first ++ (gated gate payload ++ rest)

parted : (front : List (List ℕ)) (payload : List ℕ) (more : List (List ℕ)) (body : List ℕ) → AreRecords (front ++ payload ∷ more) body → Parted front payload more body
parted [] payload more body are = record {
  first = [];
  gate = are.0;
  is_open = are.1;
  short = are.2;
  rest = are.3;
  before = refl;
  later = are.5;
  whole = are.4;
}
parted (p ∷ front) payload more body are =
    let behind = parted front payload more are.3 are.5 in
    record {
      first = gated are.0 p ++ behind.first;
      gate = behind.gate;
      is_open = behind.is_open;
      short = behind.short;
      rest = behind.rest;
      before = (are.0, are.1, are.2, behind.first, refl, behind.before);
      later = behind.later;
      whole = are.4 ∙ ap (λ bs. gated are.0 p ++ bs) behind.whole ∙ sym (append_assoc (gated are.0 p) behind.first (gated behind.gate payload ++ behind.rest));
    }

-- behind the front of a list that stands in bytes, the next record stands
pub record Stands (place tail : ℕ) (payload bytes : List ℕ) : Type 0 where
  pub finds : Finds payload bytes place (place + (length payload + 5))
  pub within : place + (length payload + 5) ≤ tail

pub next_stands : (place tail e f : ℕ) (front : List (List ℕ)) (payload : List ℕ) (more : List (List ℕ)) (bytes : List ℕ) → StandsTo place e front bytes → StandsTo tail f (front ++ payload ∷ more) bytes →
    Stands place tail payload bytes
next_stands place tail e f front payload more bytes to whole =
    let sixteen = header_length f whole.header whole.is_header in
    let part = parted front payload more whole.body whole.records in
    let first : length part.first ≡ frames_length front = body_length front part.first part.before in
    let four : length (to_be_bytes w32 (length payload)) ≡ 4 = refl in
    let long : length (to_be_bytes w32 (length payload) ++ payload) ≡ 4 + length payload = length-append (to_be_bytes w32 (length payload)) payload in
    let at : place ≡ 16 + frames_length front = tail_is place e front bytes to in
    let record_is = gated part.gate payload in
    let bytes_are : bytes ≡ (whole.header ++ part.first) ++ (record_is ++ (part.rest ++ whole.rest)) =
    whole.whole ∙ ap (λ bs. whole.header ++ (bs ++ whole.rest)) part.whole
    ∙ ap (λ bs. whole.header ++ bs) (append_assoc part.first (record_is ++ part.rest) whole.rest ∙ ap (λ bs. part.first ++ bs) (append_assoc record_is part.rest whole.rest))
    ∙ sym (append_assoc whole.header part.first (record_is ++ (part.rest ++ whole.rest))) in
    let here : drop place bytes ≡ record_is ++ (part.rest ++ whole.rest) =
    ap (λ bs. drop place bs) bytes_are ∙ drop_at (whole.header ++ part.first) (record_is ++ (part.rest ++ whole.rest)) place (omega (arith, length-append whole.header part.first, sixteen, first, at)) in
    let there : drop (place + (length payload + 5)) bytes ≡ part.rest ++ whole.rest =
    ap (λ bs. drop (place + (length payload + 5)) bs) (bytes_are ∙ sym (append_assoc (whole.header ++ part.first) record_is (part.rest ++ whole.rest)))
    ∙ drop_at ((whole.header ++ part.first) ++ record_is) (part.rest ++ whole.rest) (place + (length payload + 5))
    (omega (arith, length-append (whole.header ++ part.first) record_is, length-append whole.header part.first, sixteen, first, at, long)) in
    record {
      finds = record {
        gate = part.gate;
        is_open = part.is_open;
        short = part.short;
        stands = here ∙ ap (λ bs. record_is ++ bs) (sym there);
        moved = refl;
      };
      within = omega (arith, whole.place, ap length part.whole, length-append part.first (record_is ++ part.rest), length-append record_is part.rest, first, at, long);
    }

-- the open gate of a record that stands somewhere
pub gate_of : (payload bytes : List ℕ) (place next : ℕ) → Finds payload bytes place next → (place < length bytes) × (slice_index bytes place ≢ 0)
gate_of payload bytes place next finds =
    let at = first_left bytes place finds.gate (to_be_bytes w32 (length payload) ++ (payload ++ drop next bytes)) (finds.stands ∙ ap (λ bs. finds.gate ∷ bs) (append_assoc (to_be_bytes w32 (length payload)) payload (drop next bytes))) in
    (at.0, λ shut. finds.is_open (sym at.1 ∙ shut))

-- the length of a record that stands somewhere
pub heads : (payload bytes : List ℕ) (place next : ℕ) → Finds payload bytes place next → HeadsPayload (length payload) place bytes
heads payload bytes place next finds =
    let be = to_be_bytes w32 (length payload) in
    let behind : drop (place + 1) bytes ≡ be ++ (payload ++ drop next bytes) =
    sym (drop-drop 1 place bytes) ∙ ap (λ bs. drop 1 bs) finds.stands ∙ append_assoc be payload (drop next bytes) in
    let four : 4 ≡ place + 5 - (place + 1) = omega arith in
    let length_is : slice_range bytes (place + 1) (place + 5) ≡ be = sym (ap (λ k. take k (drop (place + 1) bytes)) four) ∙ ap (λ bs. take 4 bs) behind in
    record {
      is_open = (gate_of payload bytes place next finds).1;
      length_is = length_is;
      value = ap (λ bs. from_be_bytes w32 bs) length_is ∙ from_be_bytes-to_be_bytes_4 (length payload) finds.short;
    }

-- at one place no two records stand
pub one_payload : (p q bytes : List ℕ) (place next other : ℕ) → Finds p bytes place next → Finds q bytes place other → p ≡ q
one_payload p q bytes place next other first second =
    (payload_one first.gate second.gate p q (drop next bytes) (drop other bytes) first.short second.short (sym first.stands ∙ second.stands)).0

-- a record with a gate behind it isn't too long, and one that isn't too long has a gate behind it
pub whole_fits : (payload bytes : List ℕ) (place next : ℕ) → Finds payload bytes place next → next < length bytes → IsTooLong (length bytes) place bytes → ⊥
whole_fits payload bytes place next finds within long =
    let value = (heads payload bytes place next finds).value in
    elim long.1 [
      | inl short ↦ absurd (omega (arith, finds.moved, within, short))
      | inr short ↦ absurd (omega (arith, finds.moved, within, short, value))
    ]

pub fits_whole : (payload bytes : List ℕ) (place next : ℕ) → Finds payload bytes place next → (IsTooLong (length bytes) place bytes → ⊥) → next < length bytes
fits_whole payload bytes place next finds fits =
    let head = heads payload bytes place next finds in
    by (nat_lt next (length bytes)) refl
  where
    by : (b : Bool) → nat_lt next (length bytes) ≡ b → next < length bytes
    by true is = ltb-true next (length bytes) is
    by false is = absurd (fits ((gate_of payload bytes place next finds).1, inr (let past = ltb-false next (length bytes) is in let value = (heads payload bytes place next finds).value in omega (arith, past, value, finds.moved))))
