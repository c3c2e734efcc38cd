use Rattle.std.proofs.Common.{◌≡◌, ◌∙◌, ℕ, ◌+◌, ◌≤◌, ◌⊎◌, inl, inr, Bool, List, [], ◌∷◌, ◌++◌, length, refl, sym, ap, subst, arith}
use Rattle.std.specs.Prelude.{IsTrue}
use Rattle.dali_entry.specs.EntryRecord.{EntryRecord}
use Rattle.dali_journal.specs.Appends.{IsFirm}
use Rattle.dali_journal.specs.declared.refusal.Damage.{Damage}
use Rattle.dali_machine.specs.History.{AreNext}
use Rattle.dali_machine.specs.Machine.{opening}
use Rattle.dali_outside.specs.Outside.{Feed, Sight, Rose, Goes, TellsAll, now}
use Rattle.dali_outside.specs.Stops.{MayLeave, LeavesOnly}
use Rattle.dali_recover.specs.Damaged.{DamagedAt}
use Rattle.dali_recover.specs.Recovers.{IsWant}
use Rattle.dali_recover.specs.Spells.{SpellsLegal}
use Rattle.dali_recover.specs.declared.refusal.RecoverNo.{RecoverNo}
use Rattle.dali_recover.specs.declared.refusal.RecoverNo.TheVariants as no
use Rattle.dali_recover.proofs.Damages.{not_damaged}
use Rattle.dali_register.proofs.Texts.{next_first}
use Rattle.dali_day.specs.DayRun.{FaultsRose, EndsUnopened, Because, Opened, IsDamage, DayRun}
use Rattle.dali_day.specs.Ending.{end_of_recovery}
use Rattle.dali_day.specs.SoFar.{EndsSo}
use Rattle.dali_day.specs.declared.end.DayEnd.{DayEnd}
use Rattle.dali_day.specs.declared.end.DayEnd.TheVariants.{ReadFault, PrintFault, DiskFault, Damaged, OutOfMemory}

unopened_end : (e : RecoverNo) → EndsUnopened (end_of_recovery e)
unopened_end no.DiskFault = tt
unopened_end (no.Damaged place why) = tt
unopened_end no.OutOfMemory = tt

disk_only : (e : RecoverNo) → end_of_recovery e ≡ DiskFault → e ≡ no.DiskFault
disk_only no.DiskFault is = refl
disk_only (no.Damaged place why) is = absurd (Prim.cc)
disk_only no.OutOfMemory is = absurd (Prim.cc)

no_other : (e : RecoverNo) → (end_of_recovery e ≡ ReadFault → ⊥) × (end_of_recovery e ≡ PrintFault → ⊥)
no_other no.DiskFault = ((λ is. absurd (Prim.cc)), (λ is. absurd (Prim.cc)))
no_other (no.Damaged place why) = ((λ is. absurd (Prim.cc)), (λ is. absurd (Prim.cc)))
no_other no.OutOfMemory = ((λ is. absurd (Prim.cc)), (λ is. absurd (Prim.cc)))

damaged_only : (e : RecoverNo) (place : ℕ) (why : Damage) → end_of_recovery e ≡ Damaged place why → e ≡ no.Damaged place why
damaged_only no.DiskFault place why is = absurd (Prim.cc)
damaged_only (no.Damaged p w) place why is = Prim.cc
damaged_only no.OutOfMemory place why is = absurd (Prim.cc)

is_damage : (e : RecoverNo) (place : ℕ) (why : Damage) → (e ≡ no.Damaged place why) ⊎ IsWant e → IsDamage place why (end_of_recovery e)
is_damage e place why (inl is) = inl (ap end_of_recovery is)
is_damage e place why (inr (inl is)) = inr (inl (ap end_of_recovery is))
is_damage e place why (inr (inr is)) = inr (inr (ap end_of_recovery is))

-- no history was found
pub day_unopened : (s t : Bool) (feed : Feed) (before after : Sight) (e : RecoverNo) → (IsTrue t → TellsAll before) → (IsTrue t → TellsAll after) → (IsTrue t → (place : ℕ) (why : Damage) → e ≡ no.Damaged place why → DamagedAt before.bytes place why) →
    (IsTrue t → (place : ℕ) (why : Damage) → DamagedAt before.bytes place why → (e ≡ no.Damaged place why) ⊎ IsWant e) → (e ≡ no.DiskFault → Rose before.disk_faults after.disk_faults) →
    (IsTrue t → after.bytes ≡ before.bytes) → (IsTrue t → (e ≡ no.DiskFault → ⊥) → IsFirm after) → (IsTrue t → LeavesOnly (MayLeave (now before)) before after) → (IsTrue t → after.printed ≡ before.printed) →
    Goes before after → after.syncs ≤ before.syncs + 1 → DayRun s t feed feed before after (end_of_recovery e)
day_unopened s t feed before after e tells tells_after damaged only fault bytes firm stops silent goes syncs = record {
  counts = record {
    read = λ is. absurd ((no_other e).0 is);
    print = λ is. absurd ((no_other e).1 is);
    disk = λ is. fault (disk_only e is);
    faults = omega arith;
    goes = goes;
  };
  told = tells;
  told_after = tells_after;
  damaged = λ told place why is. damaged told place why (damaged_only e place why is);
  no_history = λ told place why is history spells. not_damaged before.bytes history place why spells (damaged told place why (damaged_only e place why is));
  damaged_only = λ told place why at. is_damage e place why (only told place why at);
  came = inl (record {
    ends = unopened_end e;
    unread = refl;
    unwritten = bytes;
    silent = silent;
    firm = λ told not. firm told (λ is. not (ap end_of_recovery is));
    stops = stops;
    syncs = syncs;
  });
}

not_because : (s t : Bool) (old : Feed) (before after : Sight) (found all done : List EntryRecord) (edition : ℕ) (end : DayEnd) (place : ℕ) (why : Damage) → end ≡ Damaged place why →
    Because s t old before after found all done edition end → ⊥
not_because s t old before after found all done edition end place why is because = subst (Because s t old before after found all done edition) is because

-- a history was found
pub day_opened : (s t : Bool) (old new : Feed) (before after : Sight) (end : DayEnd) → (IsTrue t → TellsAll before) → (IsTrue t → TellsAll after) → EndsSo s t old new before after end → DayRun s t old new before after end
day_opened s t old new before after end tells tells_after so = record {
  counts = so.counts;
  told = tells;
  told_after = tells_after;
  damaged = λ told place why is. absurd (not_because s t old before after so.opened.found so.opened.all so.opened.done so.opened.edition end place why is so.opened.because);
  no_history = λ told place why is. absurd (not_because s t old before after so.opened.found so.opened.all so.opened.done so.opened.edition end place why is so.opened.because);
  damaged_only = λ told place why at. absurd (not_damaged before.bytes so.opened.found place why (record { spells = so.opened.spelled told; legal = record { entries = found_legal } }) at);
  came = inr so.opened;
}
  where
    found_legal : AreNext opening 0 so.opened.found
    found_legal = next_first opening 0 so.opened.found so.opened.entries.added.more
        (subst (AreNext opening 0) so.opened.entries.added.parts so.opened.entries.legal)
