use Rattle.std.proofs.Common.{◌≡◌, ◌∙◌, ℕ, ◌+◌, ◌≤◌, ◌⊎◌, inl, inr, Bool, false, List, [], ◌∷◌, ◌++◌, length, refl, sym, ap, subst, arith, append-nil}
use Rattle.std.specs.Prelude.{IsTrue}
use Rattle.dali_entry.specs.EntryRecord.{EntryRecord}
use Rattle.dali_journal.specs.Holds.{HoldsAt}
use Rattle.dali_journal.specs.JournalAt.{Reached}
use Rattle.dali_line.specs.Lines.{Reader}
use Rattle.dali_machine.specs.History.{state_of}
use Rattle.dali_machine.specs.Machine.{Machine, opening}
use Rattle.dali_outside.specs.Outside.{Feed, Sight, now}
use Rattle.dali_outside.specs.Stops.{MayLeave}
use Rattle.dali_outside.proofs.Moments.{leaves_weaker}
use Rattle.dali_recover.specs.Spells.{records_of}
use Rattle.dali_recover.specs.declared.found.Found.{Found}
use Rattle.dali_register.specs.Leaving.{LeavesDay}
use Rattle.dali_register.specs.Repeating.{Repeats}
use Rattle.dali_register.specs.Starting.{Starts}
use Rattle.dali_register.specs.Standing.{SoFar}
use Rattle.dali_register.specs.TextOf.{lines_of}
use Rattle.dali_register.specs.declared.register.Register.{Register}
use Rattle.dali_register.proofs.Fronts.{whole_front}
use Rattle.dali_day.specs.DayRun.{TakesDay}
use Rattle.dali_day.specs.Reading.{Reads}
use Rattle.dali_day.specs.SoFar.{HasFound, HasRecovered, ReplaysTo, GoesOnTo, EndsSo}
use Rattle.dali_day.specs.declared.end.DayEnd.TheVariants.{PrintFault, OutOfMemory}
use Rattle.dali_day.proofs.Inputs.{TakesWithin, takes_none, at_print_fault, at_want}
use Rattle.dali_day.proofs.ReadingOn.{reads_start, reads_first, reads_within}
use Rattle.dali_day.proofs.Replaying.{ends_again}

-- What recovery gave.
module _ (s t : Bool) (feed : Feed) (before sight : Sight) (found : Found) (since : HasRecovered t before found sight) where
  pub has_found : HasFound t before found.journal.edition found.entries
  has_found = record {
    spelled = λ told. record {
      edition = found.journal.edition;
      holds = record {
        tail = found.journal.tail;
        at = subst (HoldsAt found.journal.tail found.journal.edition (records_of found.entries)) (since.unwritten told) (since.rests told).rest.holds;
      };
      entries = since.found_is.read.entries;
    };
    header = λ told. record {
      tail = found.journal.tail;
      at = subst (HoldsAt found.journal.tail found.journal.edition (records_of found.entries)) (since.unwritten told) (since.rests told).rest.holds;
    };
    legal = since.found_is.read.legal;
    held = since.found_is.read.entries;
    reported = since.found_is.read.reported;
  }

  repeats_none : Repeats t before found.entries [] found.journal.tail found.journal.edition sight
  repeats_none = record {
    rest = λ told. (since.rests told).rest;
    text = λ told. since.silent told ∙ sym (append-nil before.printed);
    stops = λ told. leaves_weaker (MayLeave (now before)) (LeavesDay before found.entries found.entries) before sight (λ image text left. inl left) (since.stops told);
    goes = since.goes;
  }

  -- nothing was gone over again yet
  pub replays_none : (reader : Reader) → reader ≡ record { pending = []; taken = 0; given = 0; over = false } →
      ReplaysTo s t feed before found.entries [] found.journal.tail found.journal.edition reader opening feed sight
  replays_none reader new = record {
    repeats = repeats_none;
    machine_is = refl;
    reads = subst (λ r. Reads s feed [] r feed) (sym new) (reads_start s feed);
    faults = omega arith;
    unwritten = since.unwritten;
    syncs = since.syncs;
  }

  -- no memory for the reader of lines
  pub wants_reader : EndsSo s t feed feed before sight OutOfMemory
  wants_reader =
      ends_again s t feed feed before sight found.entries [] found.journal.tail found.journal.edition OutOfMemory has_found (record { rest = found.entries; parts = refl })
      (record { read = λ is. absurd (Prim.cc); print = λ is. absurd (Prim.cc); disk = λ is. absurd (Prim.cc); faults = omega arith; goes = since.goes })
      (λ told. at_want feed feed [] (at_print_fault feed feed [] (takes_none feed))) repeats_none.text repeats_none.rest repeats_none.stops since.unwritten since.syncs tt

  -- All found entries were gone over again.
  module _ (reader : Reader) (machine : Machine) (last : Feed) (then : Sight) (to : ReplaysTo s t feed before found.entries found.entries found.journal.tail found.journal.edition reader machine last then) where
    -- no memory for the register
    pub wants_register : EndsSo s t feed last before then OutOfMemory
    wants_register =
        let takes : IsTrue s → TakesWithin feed last (lines_of found.entries) = (λ told. record {
          taken = to.reads.got;
          moved = to.reads.moved told;
          first = reads_first s feed (lines_of found.entries) reader last to.reads told;
          at = reads_within s feed (lines_of found.entries) reader last to.reads;
        }) in
        ends_again s t feed last before then found.entries found.entries found.journal.tail found.journal.edition OutOfMemory has_found (whole_front found.entries)
        (record { read = λ is. absurd (Prim.cc); print = λ is. absurd (Prim.cc); disk = λ is. absurd (Prim.cc); faults = to.faults; goes = to.repeats.goes })
        (λ told. at_want feed last (lines_of found.entries) (at_print_fault feed last (lines_of found.entries) (takes told))) to.repeats.text to.repeats.rest to.repeats.stops to.unwritten to.syncs tt

    pub starts : Starts t before found.entries machine found.journal then
    starts = record {
      repeats = to.repeats;
      legal = since.found_is.read.legal;
      held = since.found_is.read.entries;
      reported = since.found_is.read.reported;
      machine_is = to.machine_is;
      size = omega (arith, since.found_is.read.whole, to.repeats.goes.same_size);
      ended = since.found_is.ended;
      syncs = to.syncs;
    }

    pub goes_start : (r : Register) → SoFar t before found.entries [] [] r then → GoesOnTo s t feed before found.entries reader r last then
    goes_start r so_far = record {
      added = [];
      held = [];
      to = record {
        so_far = so_far;
        reads = subst (λ xs. Reads s feed (lines_of xs) reader last) (sym (append-nil (found.entries ++ []) ∙ append-nil found.entries)) to.reads;
        faults = to.faults;
      };
    }
