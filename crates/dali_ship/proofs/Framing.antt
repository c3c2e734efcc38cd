-- The frames of a history: their text goes on by a frame for each entry, and a reader of it gets them back.
use Rattle.std.proofs.Common.{◌≡◌, ◌∙◌, inl, ℕ, zero, suc, ◌+◌, ◌<◌, ◌≤◌, List, [], ◌∷◌, ◌++◌, Bool, length, drop, Some, refl, sym, ap, subst, arith, add-one, append-nil}
use Rattle.std.specs.Prelude.{◌^◌, slice_get}
use Rattle.std.specs.List.{AllByRecursion}
use Rattle.std.proofs.lemmas.List.{drop_all}
use Rattle.std.proofs.lemmas.List.Elements.{recursion_from_All}
use Rattle.dali_entry.specs.EntryRecord.{EntryRecord}
use Rattle.dali_record.specs.IsRecord.{IsWithin}
use Rattle.dali_record.specs.RecordText.{record_text}
use Rattle.dali_machine.specs.History.{after_entry, AreNext, IsLegal}
use Rattle.dali_machine.specs.Machine.{Machine, opening}
use Rattle.dali_recover.specs.Spells.{AreEntriesIn}
use Rattle.dali_replica.specs.Frame.{frame_text}
use Rattle.dali_replica.specs.Stream.{stream_text, StandFrom, HasFrames}
use Rattle.dali_outside.specs.Outside.{Sight}
use Rattle.dali_ship.specs.Printing.{SoFar}
use Rattle.dali_replica.specs.Shipping.{frames_from, frames_of, shipped}
use Rattle.dali_ship.proofs.Sizes.{record_short}

-- the text of entries' frames, of which the first has this number
abbrev pub text_from : ℕ → List EntryRecord → List ℕ
text_from number es = stream_text (frames_from number 0 es)

-- where frames stand is no matter of their text
place_free : (number here there : ℕ) (es : List EntryRecord) → stream_text (frames_from number here es) ≡ stream_text (frames_from number there es)
place_free number here there [] = refl
place_free number here there (e ∷ es) =
    let long = length (frame_text number (record_text e)) in
    ap (λ xs. frame_text number (record_text e) ++ xs) (place_free (number + 1) (here + long) (there + long) es)

pub text_more : (number : ℕ) (e : EntryRecord) (es : List EntryRecord) → text_from number (e ∷ es) ≡ frame_text number (record_text e) ++ text_from (number + 1) es
text_more number e es = ap (λ xs. frame_text number (record_text e) ++ xs) (place_free (number + 1) (0 + length (frame_text number (record_text e))) 0 es)

-- the entry at a place, with the text of the frames from it on
pub record Next (number : ℕ) (history : List EntryRecord) (at : ℕ) : Type 0 where
  pub e : EntryRecord
  pub there : slice_get history at ≡ Some e
  pub text : text_from number (drop at history) ≡ frame_text number (record_text e) ++ text_from (number + 1) (drop (at + 1) history)

pub next_at : (number : ℕ) (history : List EntryRecord) (at : ℕ) → at < length history → Next number history at
next_at number [] at within = absurd (omega (arith, within))
next_at number (e ∷ es) zero within = record { e = e; there = refl; text = text_more number e es }
next_at number (e ∷ es) (suc at) within =
    let later = next_at number es at (omega (arith, within)) in
    record {
      e = later.e;
      there = later.there;
      text = later.text ∙ ap (λ k. frame_text number (record_text later.e) ++ text_from (number + 1) (drop k (e ∷ es))) (ap suc (add-one at) ∙ sym (add-one (suc at)));
    }

-- behind the last entry no text is left
pub all_gone : (tells : Bool) (at : ℕ) (history : List EntryRecord) (text piece : List ℕ) (old now : Sight) → length history ≤ at → SoFar tells text piece (text_from (at + 1) (drop at history)) old now →
    SoFar tells text piece [] old now
all_gone tells at history text piece old now past far =
    subst (λ (rest : List ℕ). SoFar tells text piece rest old now) (ap (λ (es : List EntryRecord). text_from (at + 1) es) (drop_all at history past)) far

stand : (m : Machine) (last number place : ℕ) (es : List EntryRecord) → AllByRecursion IsWithin es → AreNext m last es → number + length es ≤ 2 ^ 64 → StandFrom place (frames_from number place es)
stand m last number place [] within next fits = tt
stand m last number place (e ∷ es) within next fits = (
  refl,
  record { number = omega (arith, fits); short = record_short m last e within.0 next.0 },
  stand (after_entry m e) e.edition (number + 1) (place + length (frame_text number (record_text e))) es within.1 next.1 (omega (arith, fits)),
)

-- the shipped text of a legal history has exactly its frames
pub frames_back : (edition : ℕ) (history : List EntryRecord) → AreEntriesIn edition history → IsLegal history → length history < 2 ^ 64 → HasFrames (shipped history) (frames_of history)
frames_back edition history entries legal few = record {
  rest = [];
  parts = sym (append-nil (shipped history));
  stand = stand opening 0 1 0 history (recursion_from_All IsWithin history entries.within) legal.entries (omega (arith, few));
  no_more = inl (inl (omega arith));
}
