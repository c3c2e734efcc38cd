-- A whole run: its opening, and what came then.
use Rattle.std.proofs.Common.{◌≡◌, ◌⊎◌, inl, inr, ℕ, Bool, List, refl, ap, subst, arith}
use Rattle.std.specs.Prelude.{IsTrue}
use Rattle.dali_entry.specs.EntryRecord.{EntryRecord}
use Rattle.dali_journal.specs.Appends.{IsFirm}
use Rattle.dali_journal.specs.declared.refusal.Damage.{Damage}
use Rattle.dali_outside.specs.Outside.{Feed, Sight, Rose, Goes, TellsAll, now}
use Rattle.dali_outside.specs.Stops.{MayLeave, LeavesOnly}
use Rattle.dali_recover.specs.Damaged.{DamagedAt}
use Rattle.dali_recover.specs.Recovers.{IsFound, RestsWith, IsWant}
use Rattle.dali_recover.specs.Spells.{records_of}
use Rattle.dali_recover.specs.declared.found.Found.{Found}
use Rattle.dali_recover.specs.declared.refusal.RecoverNo.{RecoverNo}
use Rattle.dali_recover.specs.declared.refusal.RecoverNo.TheVariants as no
use Rattle.dali_recover.proofs.Damages.{not_damaged}
use Rattle.dali_journal.specs.Holds.{HoldsAt}
use Rattle.dali_replica.specs.Stream.{ShippedRecord}
use Rattle.dali_upkeep.specs.Editions.{SpellsIn}
use Rattle.dali_upkeep.proofs.Editing.{spells_at, legal_in}
use Rattle.dali_follow.specs.Ending.{end_of_recovery}
use Rattle.dali_follow.specs.FollowRun.{EndsUnopened, Because, Follows, IsDamage, FollowRun}
use Rattle.dali_follow.specs.declared.end.FollowEnd.{FollowEnd}
use Rattle.dali_follow.specs.declared.end.FollowEnd.TheVariants.{ReadFault, PrintFault, DiskFault, Damaged}
use Rattle.dali_follow.proofs.Standing.{goes_on}

unopened_end : (e : RecoverNo) → EndsUnopened (end_of_recovery e)
unopened_end no.DiskFault = tt
unopened_end (no.Damaged place why) = tt
unopened_end no.OutOfMemory = tt

disk_only : (e : RecoverNo) → end_of_recovery e ≡ DiskFault → e ≡ no.DiskFault
disk_only no.DiskFault is = refl
disk_only (no.Damaged place why) is = absurd (Prim.cc)
disk_only no.OutOfMemory is = absurd (Prim.cc)

no_other : (e : RecoverNo) → (end_of_recovery e ≡ ReadFault → ⊥) × (end_of_recovery e ≡ PrintFault → ⊥)
no_other no.DiskFault = ((λ is. absurd (Prim.cc)), (λ is. absurd (Prim.cc)))
no_other (no.Damaged place why) = ((λ is. absurd (Prim.cc)), (λ is. absurd (Prim.cc)))
no_other no.OutOfMemory = ((λ is. absurd (Prim.cc)), (λ is. absurd (Prim.cc)))

damaged_only : (e : RecoverNo) (place : ℕ) (why : Damage) → end_of_recovery e ≡ Damaged place why → e ≡ no.Damaged place why
damaged_only no.DiskFault place why is = absurd (Prim.cc)
damaged_only (no.Damaged p w) place why is = Prim.cc
damaged_only no.OutOfMemory place why is = absurd (Prim.cc)

is_damage : (e : RecoverNo) (place : ℕ) (why : Damage) → (e ≡ no.Damaged place why) ⊎ IsWant e → IsDamage place why (end_of_recovery e)
is_damage e place why (inl is) = inl (ap end_of_recovery is)
is_damage e place why (inr (inl is)) = inr (inl (ap end_of_recovery is))
is_damage e place why (inr (inr is)) = inr (inr (ap end_of_recovery is))

-- no history was found
pub run_unopened : (s t : Bool) (feed : Feed) (before after : Sight) (e : RecoverNo) → (IsTrue t → TellsAll before) → (IsTrue t → TellsAll after) → (IsTrue t → (place : ℕ) (why : Damage) → e ≡ no.Damaged place why → DamagedAt before.bytes place why) →
    (IsTrue t → (place : ℕ) (why : Damage) → DamagedAt before.bytes place why → (e ≡ no.Damaged place why) ⊎ IsWant e) → (e ≡ no.DiskFault → Rose before.disk_faults after.disk_faults) →
    (IsTrue t → after.bytes ≡ before.bytes) → (IsTrue t → (e ≡ no.DiskFault → ⊥) → IsFirm after) → (IsTrue t → LeavesOnly (MayLeave (now before)) before after) → (IsTrue t → after.printed ≡ before.printed) →
    Goes before after → FollowRun s t feed feed before after (end_of_recovery e)
run_unopened s t feed before after e tells tells_after damaged only fault bytes firm stops silent goes = record {
  counts = record {
    read = λ is. absurd ((no_other e).0 is);
    print = λ is. absurd ((no_other e).1 is);
    disk = λ is. fault (disk_only e is);
    faults = omega arith;
    goes = goes;
  };
  told = tells;
  told_after = tells_after;
  damaged = λ told place why is. damaged told place why (damaged_only e place why is);
  damaged_only = λ told place why at. is_damage e place why (only told place why at);
  came = inl (record {
    ends = unopened_end e;
    unread = refl;
    unwritten = bytes;
    silent = silent;
    firm = λ told not. firm told (λ is. not (ap end_of_recovery is));
    stops = stops;
  });
}

not_because : (s : Bool) (old : Feed) (size : ℕ) (all : List EntryRecord) (frames : List ShippedRecord) (edition : ℕ) (end : FollowEnd) (place : ℕ) (why : Damage) → end ≡ Damaged place why →
    Because s old size all frames edition end → ⊥
not_because s old size all frames edition end place why is because = subst (Because s old size all frames edition) is because

-- a history was found
pub run_opened : (s t : Bool) (old new : Feed) (before mid after : Sight) (found : Found) (end : FollowEnd) → (IsTrue t → TellsAll before) → (IsTrue t → TellsAll after) → IsFound before.size found → (IsTrue t → RestsWith found mid) →
    (IsTrue t → mid.bytes ≡ before.bytes) → (IsTrue t → mid.printed ≡ before.printed) → (IsTrue t → LeavesOnly (MayLeave (now before)) before mid) → Goes before mid →
    Follows s t old new mid after found.journal.edition found.entries end → FollowRun s t old new before after end
run_opened s t old new before mid after found end tells tells_after is rests bytes silent stops goes follows = record {
  counts = record {
    read = follows.counts.read;
    print = λ ends. let rose = follows.counts.print ends in omega (arith, rose, goes.print);
    disk = λ ends. let rose = follows.counts.disk ends in omega (arith, rose, goes.disk);
    faults = follows.counts.faults;
    goes = goes_on before mid after goes follows.counts.goes;
  };
  told = tells;
  told_after = tells_after;
  damaged = λ told place why ends. absurd (not_because s old mid.size follows.all follows.frames found.journal.edition end place why ends follows.because);
  damaged_only = λ told place why at. absurd (not_damaged before.bytes found.entries place why (legal_in found.journal.edition found.entries before.bytes (spelled told)) at);
  came = inr (record {
    mid = mid;
    edition = found.journal.edition;
    found = found.entries;
    spelled = spelled;
    finds = λ told. record { bytes = bytes told; silent = silent told; firm = (rests told).rest.firm; stops = stops told };
    goes = goes;
    follows = follows;
  });
}
  where
    spelled : IsTrue t → SpellsIn found.journal.edition found.entries before.bytes
    spelled told =
        let at = (rests told).rest in
        spells_at found.journal.tail found.journal.edition found.entries before.bytes is.read.entries is.read.legal
        (subst (HoldsAt found.journal.tail found.journal.edition (records_of found.entries)) (bytes told) at.holds)
