-- A history that takes frames shipped from another, of which it is a prefix.
use Rattle.std.proofs.Common.{◌≡◌, ◌⊎◌, ◌∙◌, inl, inr, ℕ, ◌+◌, ◌<◌, ◌≤◌, List, [], ◌∷◌, ◌++◌, length, take, drop, refl, sym, ap, subst, arith, append_assoc, append-nil}
use Rattle.std.specs.List.{All}
use Rattle.std.proofs.lemmas.List.{length-append, take_at, drop_at}
use Rattle.std.proofs.lemmas.List.Elements.{All-head, All-tail}
use Rattle.dali_entry.specs.EntryRecord.{EntryRecord}
use Rattle.dali_journal.specs.Frames.{frames_length}
use Rattle.dali_machine.specs.History.{AreNext, IsLegal, after_entry}
use Rattle.dali_machine.specs.Machine.{Machine, opening}
use Rattle.dali_record.specs.IsRecord.{IsRecord}
use Rattle.dali_record.specs.RecordText.{record_text}
use Rattle.dali_recover.specs.Spells.{records_of}
use Rattle.dali_recover.proofs.Histories.{next_there}
use Rattle.dali_replica.specs.Frame.{frame_text}
use Rattle.dali_replica.specs.Judging.{IsNumbered, ComesNotNext, GoesNotOn, IsNextBy, IsKept, IsAhead, IsOther, IsBad}
use Rattle.dali_replica.specs.Shipping.{IsFrameOf, frames_from, frames_of}
use Rattle.dali_replica.specs.Stream.{ShippedRecord}
use Rattle.dali_replica.proofs.Judges.{one_record, one_numbered, kept_bounds}
use Rattle.dali_follow.specs.Takes.{Takes}
use Rattle.dali_follow.proofs.Takings.{Front}

next_first : (m : Machine) (last : ℕ) (first second : List EntryRecord) → AreNext m last (first ++ second) → AreNext m last first
next_first m last [] second are = tt
next_first m last (e ∷ first) second are = (are.0, next_first (after_entry m e) e.edition first second are.1)

-- two cuts of a list at one place
record SameCut (a b xs ys : List EntryRecord) : Type 0 where
  front_is : a ≡ b
  rest_is : xs ≡ ys

same_cut : (a b xs ys : List EntryRecord) → a ++ xs ≡ b ++ ys → length a ≡ length b → SameCut a b xs ys
same_cut a b xs ys same long = record {
  front_is = sym (take_at a xs (length b) long) ∙ ap (λ (es : List EntryRecord). take (length b) es) same ∙ take_at b ys (length b) refl;
  rest_is = sym (drop_at a xs (length b) long) ∙ ap (λ (es : List EntryRecord). drop (length b) es) same ∙ drop_at b ys (length b) refl;
}

-- the entry of a history's frame, where a prefix of the history is as long as its number says
record Behind (primary history : List EntryRecord) (e : EntryRecord) : Type 0 where
  rest : List EntryRecord
  parts : primary ≡ history ++ e ∷ rest

behind : (primary history : List EntryRecord) (f : ShippedRecord) → Front history primary → (of : IsFrameOf primary f) → f.number ≡ length history + 1 → Behind primary history of.entry
behind primary history f front of number =
    let cut = same_cut of.numbered.before history (of.entry ∷ of.numbered.behind) front.rest (sym of.numbered.parts ∙ front.parts) (let at = of.numbered.number_is in omega (arith, at, number)) in
    record { rest = of.numbered.behind; parts = of.numbered.parts ∙ ap (λ (es : List EntryRecord). es ++ of.entry ∷ of.numbered.behind) cut.front_is }

-- the next entry is the history's
pub next_front : (edition : ℕ) (primary history : List EntryRecord) (f : ShippedRecord) (e : EntryRecord) → Front history primary → IsFrameOf primary f → IsNextBy edition history f e → Front (history ++ e ∷ []) primary
next_front edition primary history f e front of next =
    let on = behind primary history f front of next.number_is in
    let same : of.entry ≡ e = one_record f.bytes of.entry e of.record_is next.goes_on.record_is in
    record {
      rest = on.rest;
      parts = on.parts ∙ ap (λ (d : EntryRecord). history ++ d ∷ on.rest) same ∙ sym (append_assoc history (e ∷ []) on.rest);
    }

pub taken_front : (edition : ℕ) (primary found : List EntryRecord) (frames : List ShippedRecord) (all : List EntryRecord) → Front found primary → All (IsFrameOf primary) frames → Takes edition found frames all → Front all primary
taken_front edition primary found [] all front are same = subst (λ (es : List EntryRecord). Front es primary) (sym same) front
taken_front edition primary found (f ∷ frames) all front are (inl adds) =
    taken_front edition primary (found ++ adds.0 ∷ []) frames all (next_front edition primary found f adds.0 front (All-head (IsFrameOf primary) f frames are) adds.1) (All-tail (IsFrameOf primary) f frames are) adds.2
taken_front edition primary found (f ∷ frames) all front are (inr passes) = taken_front edition primary found frames all front (All-tail (IsFrameOf primary) f frames are) passes.1

-- so no frame of it is another's
pub not_other : (primary history : List EntryRecord) (f : ShippedRecord) → Front history primary → IsFrameOf primary f → IsOther history f → ⊥
not_other primary history f front of other =
    let there : IsNumbered f.number other.0 primary = record {
      before = other.1.before;
      behind = other.1.behind ++ front.rest;
      parts = front.parts ∙ ap (λ (es : List EntryRecord). es ++ front.rest) other.1.parts ∙ append_assoc other.1.before (other.0 ∷ other.1.behind) front.rest;
      number_is = other.1.number_is;
    } in
    other.2 (subst (IsRecord f.bytes) (one_numbered f.number of.entry other.0 primary of.numbered there) of.record_is)

-- and none is bad, where the journal can hold it
pub not_bad : (edition : ℕ) (primary history : List EntryRecord) (f : ShippedRecord) → IsLegal primary → Front history primary → IsFrameOf primary f → ((e : EntryRecord) → IsRecord f.bytes e → e.edition ≤ edition) →
    IsBad edition history f → ⊥
not_bad edition primary history f legal front of holds (inl none) = let at = of.numbered.number_is in absurd (omega (arith, none, at))
not_bad edition primary history f legal front of holds (inr wrong) = goes_on wrong.1
  where
    on : Behind primary history of.entry
    on = behind primary history f front of wrong.0

    are : AreNext opening 0 (history ++ of.entry ∷ on.rest)
    are = subst (AreNext opening 0) on.parts legal.entries

    wrong_entry : (e : EntryRecord) → e ≡ of.entry → ComesNotNext edition history e → ⊥
    wrong_entry e same (inl above) = let most = holds of.entry of.record_is in absurd (omega (arith, above, most, ap (λ (x : EntryRecord). x.edition) same))
    wrong_entry e same (inr (inl below)) = let least = (next_there opening 0 history of.entry on.rest are).edition in absurd (omega (arith, below, least, ap (λ (x : EntryRecord). x.edition) same))
    wrong_entry e same (inr (inr illegal)) =
        illegal (subst (λ (x : EntryRecord). IsLegal (history ++ x ∷ [])) (sym same)
        (record { entries = next_first opening 0 (history ++ of.entry ∷ []) on.rest (subst (AreNext opening 0) (sym (append_assoc history (of.entry ∷ []) on.rest)) are) }))

    goes_on : GoesNotOn edition history f.bytes → ⊥
    goes_on (inl none) = none of.entry of.record_is
    goes_on (inr is) = wrong_entry is.0 (one_record f.bytes is.0 of.entry is.1 of.record_is) is.2

-- ---- all frames in order

-- how far a history is, which takes the frames of those behind the first ones
record Reaches (primary first history rest : List EntryRecord) : Type 0 where
  whole : primary ≡ first ++ rest
  front : Front history primary
  far : length first ≤ length history

in_order : (edition : ℕ) (primary first history rest : List EntryRecord) (place number : ℕ) (all : List EntryRecord) → number ≡ length first + 1 → Reaches primary first history rest →
    All (IsFrameOf primary) (frames_from number place rest) → Takes edition history (frames_from number place rest) all → all ≡ primary
in_order edition primary first history [] place number all at far are same =
    let cut = same_cut history primary far.front.rest [] (sym far.front.parts ∙ sym (append-nil primary)) (omega (arith, far.far, ap length (far.whole ∙ append-nil first), ap length far.front.parts, length-append history far.front.rest)) in
    same ∙ cut.front_is
in_order edition primary first history (e ∷ rest) place number all at far are (inl adds) =
    let f : ShippedRecord = record { place = place; number = number; bytes = record_text e } in
    let front = next_front edition primary history f adds.0 far.front (All-head (IsFrameOf primary) f (frames_from (number + 1) (place + length (frame_text number (record_text e))) rest) are) adds.1 in
    let next = adds.1 in
    in_order edition primary (first ++ e ∷ []) (history ++ adds.0 ∷ []) rest (place + length (frame_text number (record_text e))) (number + 1) all (omega (arith, at, length-append first (e ∷ [])))
    (record {
      whole = far.whole ∙ sym (append_assoc first (e ∷ []) rest);
      front = front;
      far = omega (arith, far.far, length-append first (e ∷ []), length-append history (adds.0 ∷ []));
    })
    (All-tail (IsFrameOf primary) f (frames_from (number + 1) (place + length (frame_text number (record_text e))) rest) are) adds.2
in_order edition primary first history (e ∷ rest) place number all at far are (inr passes) =
    let f : ShippedRecord = record { place = place; number = number; bytes = record_text e } in
    in_order edition primary (first ++ e ∷ []) history rest (place + length (frame_text number (record_text e))) (number + 1) all (omega (arith, at, length-append first (e ∷ [])))
    (record {
      whole = far.whole ∙ sym (append_assoc first (e ∷ []) rest);
      front = far.front;
      far = let long = longer passes.0 in omega (arith, long, at, length-append first (e ∷ []));
    })
    (All-tail (IsFrameOf primary) f (frames_from (number + 1) (place + length (frame_text number (record_text e))) rest) are) passes.1
  where
    longer : IsKept history (record { place = place; number = number; bytes = record_text e }) ⊎ IsAhead history (record { place = place; number = number; bytes = record_text e }) → number ≤ length history
    longer (inl kept) = (kept_bounds edition history (record { place = place; number = number; bytes = record_text e }) kept).1
    longer (inr ahead) = absurd (omega (arith, ahead, at, far.far))

-- a prefix of a history that takes all its frames becomes the history
pub takes_all : (edition : ℕ) (primary found all : List EntryRecord) → Front found primary → All (IsFrameOf primary) (frames_of primary) → Takes edition found (frames_of primary) all → all ≡ primary
takes_all edition primary found all front are takes =
    in_order edition primary [] found primary 0 1 all refl (record { whole = refl; front = front; far = omega arith }) are takes

-- ---- room

pub records_longer : (first : List EntryRecord) (e : EntryRecord) (rest : List EntryRecord) → frames_length (records_of first) + (length (record_text e) + 5) ≤ frames_length (records_of (first ++ e ∷ rest))
records_longer [] e rest = omega arith
records_longer (x ∷ first) e rest = let later = records_longer first e rest in omega (arith, later)

-- where all records of a history fit, the next of a prefix does
pub fits_next : (edition : ℕ) (primary history : List EntryRecord) (f : ShippedRecord) (e : EntryRecord) (size left need : ℕ) → Front history primary → IsFrameOf primary f → IsNextBy edition history f e →
    16 + frames_length (records_of primary) < size → left + (16 + frames_length (records_of history)) ≡ size → need ≡ length f.bytes + 6 → left < need → ⊥
fits_next edition primary history f e size left need front of next fits left_is need_is short =
    let on = behind primary history f front of next.number_is in
    let long = records_longer history of.entry on.rest in
    absurd (omega (arith, fits, left_is, need_is, short, long, ap (λ (es : List EntryRecord). frames_length (records_of es)) on.parts, ap length of.record_is.text))
