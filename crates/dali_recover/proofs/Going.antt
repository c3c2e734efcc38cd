-- How far a journal was read, record by record.
use Rattle.std.proofs.Common.{◌≡◌, ◌∙◌, ℕ, ◌+◌, ◌≤◌, Bool, List, [], length, refl, sym, ap, subst, arith}
use Rattle.std.specs.Prelude.{IsTrue}
use Rattle.std.proofs.lemmas.List.Elements.{All-nil}
use Rattle.dali_outside.specs.Outside.{Sight}
use Rattle.dali_entry.specs.EntryRecord.{EntryRecord}
use Rattle.dali_record.specs.IsRecord.{IsWithin}
use Rattle.dali_machine.specs.Machine.{Machine, opening}
use Rattle.dali_machine.specs.History.{IsLegal, state_of}
use Rattle.dali_journal.specs.Frames.{frames_length}
use Rattle.dali_journal.specs.declared.refusal.Damage.{Damage}
use Rattle.dali_recover.specs.Spells.{records_of, AreEntriesIn}
use Rattle.dali_recover.specs.Reported.{AreReported}
use Rattle.dali_recover.specs.Damaged.{ReadsTo, DamagedAt}
use Rattle.dali_recover.specs.Recovers.{IsReadTo}
use Rattle.dali_recover.specs.Taking.{Quiet, SoFar}
use Rattle.dali_recover.specs.declared.found.Found.{Found}

pub quiet_start : (tells : Bool) (s : Sight) → Quiet tells s s
quiet_start tells s = record {
  disk = λ t. record { bytes = refl; loose = refl };
  text = λ t. record { printed = refl; past = refl };
  goes = record { same_size = refl; disk = omega arith; print = omega arith };
  syncs = omega arith;
}

pub quiet_on : (tells : Bool) (a b c : Sight) → Quiet tells a b → Quiet tells b c → Quiet tells a c
quiet_on tells a b c first second = record {
  disk = λ t. record { bytes = (second.disk t).bytes ∙ (first.disk t).bytes; loose = (second.disk t).loose ∙ (first.disk t).loose };
  text = λ t. record { printed = (second.text t).printed ∙ (first.text t).printed; past = (second.text t).past ∙ (first.text t).past };
  goes = record {
    same_size = second.goes.same_size ∙ first.goes.same_size;
    disk = omega (arith, second.goes.disk, first.goes.disk);
    print = omega (arith, second.goes.print, first.goes.print);
  };
  syncs = omega (arith, second.syncs, first.syncs);
}

-- a journal that was just opened
pub so_far_start : (tells : Bool) (s : Sight) (found : Found) → found.state.machine ≡ opening → found.entries ≡ [] → found.journal.tail ≡ 16 → found.journal.tail + found.journal.left ≡ s.size →
    (IsTrue tells → ReadsTo 16 found.journal.edition [] s.bytes) → SoFar tells s s found
so_far_start tells s found state entries tail whole reads = record {
  read = record {
    entries = subst (λ (es : List EntryRecord). AreEntriesIn found.journal.edition es) (sym entries)
        (record { within = All-nil IsWithin; editions = All-nil (λ (e : EntryRecord). e.edition ≤ found.journal.edition) });
    legal = subst IsLegal (sym entries) (record { entries = tt });
    reported = subst (AreReported opening) (sym entries) tt;
    state = state ∙ ap state_of (sym entries);
    counted = ap (λ (m : Machine). m.commands) state ∙ sym (ap length entries);
    place = tail ∙ ap (λ (es : List EntryRecord). 16 + frames_length (records_of es)) (sym entries);
    whole = whole;
  };
  reads = λ t. subst (λ (es : List EntryRecord). ReadsTo found.journal.tail found.journal.edition es s.bytes) (sym entries)
      (subst (λ k. ReadsTo k found.journal.edition [] s.bytes) (sym tail) (reads t));
  quiet = quiet_start tells s;
}

module _ (tells : Bool) (old mid : Sight) (before : Found) (so_far : SoFar tells old mid before) where
  -- calls that read alone
  pub so_far_on : (new : Sight) → Quiet tells mid new → SoFar tells old new before
  so_far_on new quiet = record { read = so_far.read; reads = so_far.reads; quiet = quiet_on tells old mid new so_far.quiet quiet }

  -- one more record
  pub so_far_next : (new : Sight) (after : Found) → IsReadTo mid.size after → (IsTrue tells → ReadsTo after.journal.tail after.journal.edition after.entries mid.bytes) → Quiet tells mid new →
      SoFar tells old new after
  so_far_next new after read reads quiet = record {
    read = subst (λ n. IsReadTo n after) so_far.quiet.goes.same_size read;
    reads = λ t. subst (λ (bs : List ℕ). ReadsTo after.journal.tail after.journal.edition after.entries bs) (so_far.quiet.disk t).bytes (reads t);
    quiet = quiet_on tells old mid new so_far.quiet quiet;
  }

  pub damaged_since : (place : ℕ) (why : Damage) → IsTrue tells → DamagedAt mid.bytes place why → DamagedAt old.bytes place why
  damaged_since place why t is = subst (λ (bs : List ℕ). DamagedAt bs place why) (so_far.quiet.disk t).bytes is
