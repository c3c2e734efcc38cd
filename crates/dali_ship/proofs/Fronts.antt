-- A front of a shipped history: it has the first frames of the history, and behind them at most a part of the next.
use Rattle.std.proofs.Common.{◌≡◌, ◌∙◌, inl, inr, ℕ, suc, ◌+◌, ◌-◌, ◌<◌, ◌≤◌, List, [], ◌∷◌, ◌++◌, length, take, refl, sym, ap, arith, append_assoc}
use Rattle.std.specs.Prelude.{◌^◌}
use Rattle.std.specs.List.{AllByRecursion}
use Rattle.std.proofs.Math.Seq.{take-append-add}
use Rattle.std.proofs.lemmas.Bool.{cases_lt}
use Rattle.std.proofs.lemmas.List.{take-append-le, length-take-le}
use Rattle.std.proofs.lemmas.List.Elements.{recursion_from_All}
use Rattle.dali_entry.specs.EntryRecord.{EntryRecord}
use Rattle.dali_record.specs.IsRecord.{IsWithin}
use Rattle.dali_record.specs.RecordText.{record_text}
use Rattle.dali_machine.specs.History.{after_entry, AreNext, IsLegal}
use Rattle.dali_machine.specs.Machine.{Machine, opening}
use Rattle.dali_recover.specs.Spells.{AreEntriesIn}
use Rattle.dali_upkeep.proofs.Putting.{take_none}
use Rattle.dali_replica.specs.Limits.{most_record}
use Rattle.dali_replica.specs.Frame.{head_text, frame_text, EndsWithin}
use Rattle.dali_replica.specs.Stream.{stream_text, StandFrom}
use Rattle.dali_replica.proofs.Fronts.{head_length, frame_length}
use Rattle.dali_replica.specs.Shipping.{frames_from, shipped}
use Rattle.dali_ship.specs.Shipping.{HasFirstFrames}
use Rattle.dali_ship.proofs.Sizes.{record_short}

-- a part of a frame, without its last byte
part_of_frame : (number n : ℕ) (bytes : List ℕ) → number < 2 ^ 64 → length bytes ≤ most_record → n < length (frame_text number bytes) → EndsWithin (take n (frame_text number bytes))
part_of_frame number n bytes fits short within = elim (cases_lt n 12) as (λ _. EndsWithin (take n (frame_text number bytes))) [
  | inl lt ↦ let long = length-take-le n (frame_text number bytes) (omega (arith, within)) in inl (omega (arith, lt, long))
  | inr ge ↦
      let head = head_length number (length bytes) in
      let long = frame_length number bytes in
      let more = length-take-le (n - 12) bytes (omega (arith, within, long, ge)) in
      let place : n ≡ length (head_text number (length bytes)) + (n - 12) = omega (arith, head, ge) in
      inr (record {
        number = number;
        size = length bytes;
        rest = take (n - 12) bytes;
        head = record {
          number_fits = fits;
          size_fits = omega (arith, short);
          whole = ap (λ k. take k (frame_text number bytes)) place ∙ take-append-add (head_text number (length bytes)) bytes (n - 12);
        };
        allowed = short;
        longer = omega (arith, more, within, long, ge);
      })
]

-- some first bytes of entries' frames, the first of which has this number and stands at this place
record Begins (number place n : ℕ) (es : List EntryRecord) : Type 0 where
  k : ℕ
  rest : List ℕ
  parts : take n (stream_text (frames_from number place es)) ≡ stream_text (take k (frames_from number place es)) ++ rest
  stand : StandFrom place (take k (frames_from number place es))
  no_more : EndsWithin rest

begins : (m : Machine) (last number place n : ℕ) (es : List EntryRecord) → AllByRecursion IsWithin es → AreNext m last es → number + length es ≤ 2 ^ 64 → Begins number place n es
begins m last number place n [] within next fits = record { k = 0; rest = []; parts = take_none n; stand = tt; no_more = inl (omega arith) }
begins m last number place n (e ∷ es) within next fits =
    let frame = frame_text number (record_text e) in
    let fs = frames_from (number + 1) (place + length frame) es in
    let short = record_short m last e within.0 next.0 in
    elim (cases_lt n (length frame)) as (λ _. Begins number place n (e ∷ es)) [
      | inl lt ↦ record {
        k = 0;
        rest = take n frame;
        parts = take-append-le n frame (stream_text fs) (omega (arith, lt));
        stand = tt;
        no_more = part_of_frame number n (record_text e) (omega (arith, fits)) short lt;
      }
      | inr ge ↦
          let later = begins (after_entry m e) e.edition (number + 1) (place + length frame) (n - length frame) es within.1 next.1 (omega (arith, fits)) in
          let place_is : n ≡ length frame + (n - length frame) = omega (arith, ge) in
          record {
            k = suc later.k;
            rest = later.rest;
            parts = ap (λ j. take j (frame ++ stream_text fs)) place_is ∙ take-append-add frame (stream_text fs) (n - length frame)
                ∙ ap (λ xs. frame ++ xs) later.parts ∙ sym (append_assoc frame (stream_text (take later.k fs)) later.rest);
            stand = (refl, record { number = omega (arith, fits); short = short }, later.stand);
            no_more = later.no_more;
          }
    ]

-- what a stop leaves of a shipped history has its first frames
pub fronts : (edition : ℕ) (history : List EntryRecord) → AreEntriesIn edition history → IsLegal history → length history < 2 ^ 64 → (n : ℕ) → HasFirstFrames (take n (shipped history)) history
fronts edition history entries legal few n =
    let first = begins opening 0 1 0 n history (recursion_from_All IsWithin history entries.within) legal.entries (omega (arith, few)) in
    record { k = first.k; frames = record { rest = first.rest; parts = first.parts; stand = first.stand; no_more = inl first.no_more } }
