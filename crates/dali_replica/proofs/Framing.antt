-- How far the next frame was read: its head, its record, or where it ended.
use Rattle.std.proofs.Common.{◌≡◌, ◌∙◌, inl, inr, ℕ, ◌+◌, ◌<◌, ◌≤◌, Bool, List, [], ◌++◌, length, refl, sym, ap, subst, arith, append_assoc, append-nil}
use Rattle.std.specs.Prelude.{◌^◌}
use Rattle.std.proofs.lemmas.List.{length-append}
use Rattle.dali_replica.specs.Limits.{most_record}
use Rattle.dali_replica.specs.Frame.{head_text, frame_text, HasHead, EndsWithin}
use Rattle.dali_replica.specs.Stream.{ShippedRecord}
use Rattle.dali_line.specs.Lines.{Reach}
use Rattle.dali_replica.specs.Reading.{MeetsFrame, MeetsEnd, FindsOverlong, Stops}
use Rattle.dali_replica.specs.Intake.{Midway, Dries, AtEnd, Breaks, EndsShort, BreaksShort, LacksRoom, StopsShort}
use Rattle.dali_replica.specs.declared.refusal.FrameNo.{FrameNo}
use Rattle.dali_replica.specs.declared.refusal.FrameNo.TheVariants.{ReadFault, BadLength, LongFile, OutOfMemory}
use Rattle.dali_replica.proofs.Fronts.{frame_length}

module _ (told : Bool) (old now : Reach) where
  -- all bytes that were got are used
  dried : (used : List ℕ) (dries : Dries told old used now) → old.pending ++ dries.midway.got ≡ used
  dried used dries = dries.midway.parted ∙ ap (λ rest. used ++ rest) dries.empty ∙ append-nil used

  -- no more bytes came behind those used, with which no frame was whole
  stops_within : (place : ℕ) (used : List ℕ) (e : FrameNo) → EndsWithin used → Breaks told old used now e → Stops told place old now e
  stops_within place used ReadFault within dries = record {
    got = dries.midway.got;
    gets = dries.midway.gets;
    within = subst EndsWithin (sym (dried used dries)) within;
  }
  stops_within place used (BadLength at) within none = absurd none
  stops_within place used LongFile within limit = record {
    got = limit.got;
    past = limit.past;
    moved = limit.moved;
    limit = limit.limit;
    within = subst EndsWithin (sym limit.parted) within;
  }
  stops_within place used OutOfMemory within none = absurd none

  ends_within : (used : List ℕ) → EndsWithin used → AtEnd told old used now → MeetsEnd told old now
  ends_within used within at = record {
    got = at.dries.midway.got;
    gets = at.dries.midway.gets;
    within = subst EndsWithin (sym (dried used at.dries)) within;
    end = at.end;
  }

  -- within the head
  pub stops_in_head : (place : ℕ) (e : FrameNo) → BreaksShort told old [] 12 now e → Stops told place old now e
  stops_in_head place e is = let short = is.short in stops_within place is.part e (inl short) is.breaks

  pub ends_in_head : EndsShort told old [] 12 now → MeetsEnd told old now
  ends_in_head is = let short = is.short in ends_within is.part (inl short) is.at_end

  module _ (number size : ℕ) (number_fits : number < 2 ^ 64) (size_fits : size < 2 ^ 32) where
    head : (rest bytes : List ℕ) → bytes ≡ head_text number size ++ rest → HasHead number size rest bytes
    head rest bytes parts = record { number_fits = number_fits; size_fits = size_fits; whole = parts }

    -- the head is of a frame that is too long
    pub overlong : Midway told old (head_text number size) now → most_record < size → FindsOverlong told old now
    overlong m over = record {
      got = m.got;
      gets = m.gets;
      overlong = record { number = number; size = size; rest = now.pending; head = head now.pending (old.pending ++ m.got) m.parted; over = over };
    }

    module _ (allowed : size ≤ most_record) where
      longer : (part : List ℕ) → length part < size → EndsWithin (head_text number size ++ part)
      longer part short = inr (record { number = number; size = size; rest = part; head = head part (head_text number size ++ part) refl; allowed = allowed; longer = short })

      -- within the record
      breaks_in_record : (place : ℕ) (e : FrameNo) → BreaksShort told old (head_text number size) size now e → Stops told place old now e
      breaks_in_record place e is = stops_within place (head_text number size ++ is.part) e (longer is.part is.short) is.breaks

      lacks_room : (place : ℕ) → LacksRoom told old (head_text number size) now → Stops told place old now OutOfMemory
      lacks_room place is = record {
        got = is.midway.got;
        gets = is.midway.gets;
        begun = record {
          number = number;
          size = size;
          rest = is.part ++ now.pending;
          head = head (is.part ++ now.pending) (old.pending ++ is.midway.got) (is.midway.parted ∙ append_assoc (head_text number size) is.part now.pending);
          allowed = allowed;
          some = let some = is.some in omega (arith, some, length-append is.part now.pending);
        };
      }

      pub stops_in_record : (place : ℕ) (e : FrameNo) → StopsShort told old (head_text number size) size now e → Stops told place old now e
      stops_in_record place ReadFault is = breaks_in_record place ReadFault is
      stops_in_record place (BadLength at) is = breaks_in_record place (BadLength at) is
      stops_in_record place LongFile is = breaks_in_record place LongFile is
      stops_in_record place OutOfMemory is = lacks_room place is

      pub ends_in_record : EndsShort told old (head_text number size) size now → MeetsEnd told old now
      ends_in_record is = ends_within (head_text number size ++ is.part) (longer is.part is.short) is.at_end

      -- the frame is whole
      pub meets_frame : (place : ℕ) (bytes : List ℕ) → Midway told old (head_text number size ++ bytes) now → length bytes ≡ size → MeetsFrame told (record { place = place; number = number; bytes = bytes }) old now
      meets_frame place bytes m long = record {
        got = m.got;
        gets = m.gets;
        parted = m.parted ∙ ap (λ n. (head_text number n ++ bytes) ++ now.pending) (sym long);
        is_frame = record { number = number_fits; short = omega (arith, long, allowed) };
      }

-- the place of the next frame and the bytes pending reach to what was taken
pub counted_on : (told : Bool) (f : ShippedRecord) (old now : Reach) (place n : ℕ) → place + length old.pending ≡ old.taken → MeetsFrame told f old now → n ≡ length f.bytes →
    place + (12 + n) + length now.pending ≡ now.taken
counted_on told f old now place n before met long =
    let taken = met.gets.taken in
    omega (arith, before, taken, long, ap length met.parted, length-append old.pending met.got, length-append (frame_text f.number f.bytes) now.pending, frame_length f.number f.bytes)
