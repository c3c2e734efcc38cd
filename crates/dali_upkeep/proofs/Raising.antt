-- How a raise ends, by what recovery found, and what its stops leave.
use Rattle.std.proofs.Common.{◌≡◌, ◌⊎◌, ◌∙◌, inl, inr, ℕ, ◌+◌, ◌<◌, ◌≤◌, Bool, List, [], ◌∷◌, take, drop, refl, sym, ap, subst, arith}
use Rattle.std.specs.Prelude.{IsTrue}
use Rattle.dali_base.specs.Limits.{newest_edition}
use Rattle.dali_outside.specs.Outside.{Sight, Rose, TellsAll, overlay, now}
use Rattle.dali_outside.specs.Stops.{MayLeave, LeavesOnly}
use Rattle.dali_outside.proofs.Images.{own_left}
use Rattle.dali_outside.proofs.Moments.{leaves_start, leaves_on, leaves_weaker, keeps_now}
use Rattle.dali_entry.specs.EntryRecord.{EntryRecord}
use Rattle.dali_journal.specs.Holds.{HoldsAt}
use Rattle.dali_journal.specs.Appends.{AtRest, EachHolds, EitherEdition}
use Rattle.dali_journal.specs.declared.refusal.Damage.{Damage}
use Rattle.dali_journal.proofs.RestLemmas.{each_holds}
use Rattle.dali_recover.specs.Spells.{records_of}
use Rattle.dali_recover.specs.Recovers.{IsWant}
use Rattle.dali_recover.specs.declared.found.Found.{Found}
use Rattle.dali_recover.specs.declared.refusal.RecoverNo.{RecoverNo}
use Rattle.dali_recover.specs.declared.refusal.RecoverNo.TheVariants as errors
use Rattle.dali_recover.proofs.Spelling.{one_history}
use Rattle.dali_upkeep.specs.Editions.{SpellsIn, SpellsInEither, raised_edition, raised_bytes}
use Rattle.dali_upkeep.specs.RaiseRun.{RaisesTo, RaisesInPart, RaiseLeaves, LeavesRaise, EachAtStart, EachSince, SpellsOne, ComesFrom, BeginsWith, RaisesUnfailed, RaiseRun}
use Rattle.dali_upkeep.specs.Raising.{unraised, RaisedAt, TornAt, RaisesAs, LeavesFound, RaisesFound}
use Rattle.dali_upkeep.specs.declared.raise.RaiseEnd.{RaiseEnd}
use Rattle.dali_upkeep.specs.declared.raise.RaiseEnd.TheVariants.{Done, DiskFault, Damaged, OutOfMemory}
use Rattle.dali_upkeep.proofs.Putting.{goes_on}
use Rattle.dali_upkeep.proofs.Editing.{entries_up, raised_up, edition_below, bytes_below, edition_newest, bytes_newest, spells_at, legal_in, in_edition, same_edition, same_history, either_same, either_legal}
use Rattle.dali_upkeep.proofs.Recovering.{Finds, Refuses, found_holds}

-- From what every stop leaves: what each image since the start spells, by what those at the start do.
module _ (old new : Sight) (all : TellsAll old) (stops : LeavesOnly (LeavesRaise old) old new) where
  pub one_kept : (edition : ℕ) (history : List EntryRecord) → EachAtStart old (SpellsIn edition history) → EachSince old new (SpellsInEither edition history)
  one_kept edition history start image text left = elim (stops.each image text left) [
    | inl may ↦ inl (start image text may)
    | inr within ↦
        let stood : SpellsIn edition history old.bytes = start old.bytes old.printed (own_left old all) in
        either_same within.edition edition within.history history image
        (same_edition within.edition edition within.history history old.bytes within.found stood)
        (same_history within.edition edition within.history history old.bytes within.found stood) within.one
  ]

  pub each_kept : EachAtStart old SpellsOne → EachSince old new (ComesFrom old)
  each_kept start image text left = elim (stops.each image text left) [
    | inl may ↦
        let one = start image text may in
        record {
          start = image;
          text = text;
          left = may;
          edition = one.legal.spells.edition;
          history = one.history;
          found = in_edition image one;
          one = inl (in_edition image one);
        }
    | inr within ↦ record {
      start = old.bytes;
      text = old.printed;
      left = own_left old all;
      edition = within.edition;
      history = within.history;
      found = within.found;
      one = within.one;
    }
  ]

  pub begins_kept : (front : List EntryRecord) → EachAtStart old (BeginsWith front) → EachSince old new (BeginsWith front)
  begins_kept front start image text left = elim (stops.each image text left) [
    | inl may ↦ start image text may
    | inr within ↦
        let stood : BeginsWith front old.bytes = start old.bytes old.printed (own_left old all) in
        let same : stood.history ≡ within.history = one_history old.bytes stood.history within.history stood.legal.spells (legal_in within.edition within.history old.bytes within.found).spells in
        record {
          history = within.history;
          legal = either_legal within.edition within.history image within.one;
          rest = stood.rest;
          parts = sym same ∙ stood.parts;
        }
  ]

-- a journal of the newest edition stays as it is
pub newest_stops : (tail edition : ℕ) (list : List (List ℕ)) (s : Sight) → LeavesOnly (LeavesFound tail edition list s) s s
newest_stops tail edition list s = leaves_start (LeavesFound tail edition list s) s (λ image text may. inl may)

pub newest_at : (edition : ℕ) (s : Sight) → newest_edition ≤ edition → TellsAll s → RaisedAt edition s s
newest_at edition s past all = record {
  bytes = bytes_newest edition s.bytes past;
  rest = λ tail list at. subst (λ k. AtRest tail k list s) (edition_newest edition past) at;
  images = λ tail list at. subst (λ k. EachHolds k list s) (edition_newest edition past) (each_holds tail edition list s all at);
}

-- one that has a next edition is raised
pub below_stops : (tail edition : ℕ) (list : List (List ℕ)) (old new : Sight) → edition < newest_edition → LeavesOnly (EitherEdition tail edition list old.printed) old new → LeavesOnly (LeavesFound tail edition list old) old new
below_stops tail edition list old new below stops =
    leaves_weaker (EitherEdition tail edition list old.printed) (LeavesFound tail edition list old) old new (λ image text either. inr (below, either)) stops

pub below_at : (edition : ℕ) (old new : Sight) → edition < newest_edition → new.bytes ≡ overlay old.bytes (11 + edition) (1 ∷ []) →
    ((tail : ℕ) (list : List (List ℕ)) → AtRest tail edition list old → AtRest tail (edition + 1) list new) →
    ((tail : ℕ) (list : List (List ℕ)) → AtRest tail edition list old → EachHolds (edition + 1) list new) → RaisedAt edition old new
below_at edition old new below bytes rest images = record {
  bytes = bytes ∙ bytes_below edition old.bytes below;
  rest = λ tail list at. subst (λ k. AtRest tail k list new) (edition_below edition below) (rest tail list at);
  images = λ tail list at. subst (λ k. EachHolds k list new) (edition_below edition below) (images tail list at);
}

module _ (tells : Bool) (old mid new : Sight) (found : Found) (f : Finds tells old mid found) where
  -- the bytes at the start spell what was found, in the journal's edition
  found_in : IsTrue tells → SpellsIn found.journal.edition found.entries old.bytes
  found_in t = record {
    holds = found_holds tells old mid found f t;
    entries = f.is.read.entries;
    legal = f.is.read.legal;
  }

  up_in : (tail edition : ℕ) (image : List ℕ) → found.journal.edition ≤ edition → HoldsAt tail edition (records_of found.entries) image → SpellsIn edition found.entries image
  up_in tail edition image up at = spells_at tail edition found.entries image (entries_up found.journal.edition edition found.entries up f.is.read.entries) f.is.read.legal at

  raised_to : IsTrue tells → RaisedAt found.journal.edition mid new → RaisesTo old new
  raised_to t r =
      let at = (f.rests t).rest in
      let now_at = r.rest found.journal.tail (records_of found.entries) at in
      let up = raised_up found.journal.edition in
      record {
        edition = found.journal.edition;
        history = found.entries;
        found = found_in t;
        bytes = r.bytes ∙ ap (raised_bytes found.journal.edition) (f.bytes t);
        firm = now_at.firm;
        spelled = up_in found.journal.tail (raised_edition found.journal.edition) new.bytes up now_at.holds;
        images = λ image text left.
            let holds = r.images found.journal.tail (records_of found.entries) at image text left in
            up_in holds.tail (raised_edition found.journal.edition) image up holds.at;
      }

  torn_to : IsTrue tells → TornAt found.journal.edition mid new → RaisesInPart old new
  torn_to t r = record {
    edition = found.journal.edition;
    history = found.entries;
    found = found_in t;
    below = r.below;
    outside = record {
      before = r.outside.before ∙ ap (λ (bs : List ℕ). take (11 + found.journal.edition) bs) (f.bytes t);
      behind = r.outside.behind ∙ ap (λ (bs : List ℕ). drop (11 + found.journal.edition + 1) bs) (f.bytes t);
    };
  }

  leaves_as : IsTrue tells → (answer : RaiseEnd) → RaisesAs answer found.journal.edition mid new → RaiseLeaves answer old new
  leaves_as t Done r = raised_to t r
  leaves_as t DiskFault r = inr (torn_to t r)
  leaves_as t (Damaged place why) r = absurd r
  leaves_as t OutOfMemory r = absurd r

  within_found : IsTrue tells → (image text : List ℕ) → LeavesFound found.journal.tail found.journal.edition (records_of found.entries) mid image text → LeavesRaise old image text
  within_found t image text (inl may) = inl (keeps_now (MayLeave (now old)) old mid (f.stops t) image text may)
  within_found t image text (inr within) = inr (record {
    edition = found.journal.edition;
    history = found.entries;
    found = found_in t;
    below = within.0;
    one = elim within.1.one [
      | inl same ↦ inl (up_in found.journal.tail found.journal.edition image (omega arith) same)
      | inr next ↦ inr (up_in found.journal.tail (found.journal.edition + 1) image (omega arith) next)
    ];
    silent = within.1.silent ∙ f.silent t;
  })

  raise_stops : (answer : RaiseEnd) → IsTrue tells → RaisesFound tells found.journal.edition mid new answer → LeavesOnly (LeavesRaise old) old new
  raise_stops answer t r =
      leaves_on (LeavesRaise old) old mid
      (leaves_weaker (MayLeave (now old)) (LeavesRaise old) old mid (λ image text may. inl may) (f.stops t))
      new
      (leaves_weaker (LeavesFound found.journal.tail found.journal.edition (records_of found.entries) mid) (LeavesRaise old) mid new (within_found t)
      (r.stops t found.journal.tail (records_of found.entries) (f.rests t).rest))

  module _ (answer : RaiseEnd) (r : RaisesFound tells found.journal.edition mid new answer) where
    disk_rose : answer ≡ DiskFault → Rose old.disk_faults new.disk_faults
    disk_rose is = elim r.ends [
      | inl done ↦ absurd (cc (done, is))
      | inr fault ↦ let first = f.goes.disk in let rose = fault.1 in omega (arith, rose, first)
    ]

    not_damaged : (place : ℕ) (why : Damage) → answer ≡ Damaged place why → ⊥
    not_damaged place why is = elim r.ends [
      | inl done ↦ absurd (cc (done, is))
      | inr fault ↦ absurd (let other = fault.0 in cc (other, is))
    ]

    is_done : (Rose old.disk_faults new.disk_faults → ⊥) → answer ≡ Done
    is_done quiet = elim r.ends [
      | inl done ↦ done
      | inr fault ↦ absurd (quiet (disk_rose fault.0))
    ]

    -- a history was found, and its journal raised, or the disk failed
    pub raised_run : (IsTrue tells → TellsAll old) → RaiseRun tells old new answer
    raised_run told = record {
      disk_fault = disk_rose;
      goes = goes_on old mid new f.goes r.goes;
      syncs = let first = f.syncs in let second = r.syncs in omega (arith, first, second);
      leaves = λ t. leaves_as t answer (r.came t);
      silent = λ t. r.silent t ∙ f.silent t;
      whole = r.whole;
      damaged = λ t place why is. absurd (not_damaged place why is);
      only = λ t place why is. absurd (f.only t place why is);
      stops = λ t. raise_stops answer t r;
      one = λ t. one_kept old new (told t) (raise_stops answer t r);
      each = λ t. each_kept old new (told t) (raise_stops answer t r);
      begins = λ t. begins_kept old new (told t) (raise_stops answer t r);
      unfailed = λ quiet. subst RaisesUnfailed (sym (is_done quiet)) tt;
      complete = λ t history spells quiet. inl (is_done quiet);
    }

-- the answer of recovery that a raise's stands for
disk_from : (refusal : RecoverNo) → unraised refusal ≡ DiskFault → refusal ≡ errors.DiskFault
disk_from errors.DiskFault is = refl
disk_from (errors.Damaged place why) is = absurd (cc)
disk_from errors.OutOfMemory is = absurd (cc)

damaged_from : (refusal : RecoverNo) (place : ℕ) (why : Damage) → unraised refusal ≡ Damaged place why → refusal ≡ errors.Damaged place why
damaged_from errors.DiskFault place why is = absurd (cc)
damaged_from (errors.Damaged p w) place why is = cc is
damaged_from errors.OutOfMemory place why is = absurd (cc)

only_to : (refusal : RecoverNo) (place : ℕ) (why : Damage) → (refusal ≡ errors.Damaged place why) ⊎ IsWant refusal → (unraised refusal ≡ Damaged place why) ⊎ ((unraised refusal ≡ DiskFault) ⊎ (unraised refusal ≡ OutOfMemory))
only_to refusal place why (inl is) = inl (ap unraised is)
only_to refusal place why (inr (inl is)) = inr (inl (ap unraised is))
only_to refusal place why (inr (inr is)) = inr (inr (ap unraised is))

want_memory : (refusal : RecoverNo) → IsWant refusal → (refusal ≡ errors.DiskFault → ⊥) → (unraised refusal ≡ Done) ⊎ (unraised refusal ≡ OutOfMemory)
want_memory refusal (inl is) quiet = absurd (quiet is)
want_memory refusal (inr is) quiet = inr (ap unraised is)

refused_unfailed : (refusal : RecoverNo) → (refusal ≡ errors.DiskFault → ⊥) → RaisesUnfailed (unraised refusal)
refused_unfailed errors.DiskFault quiet = absurd (quiet refl)
refused_unfailed (errors.Damaged place why) quiet = tt
refused_unfailed errors.OutOfMemory quiet = tt

nothing_raised : (tells : Bool) (old new : Sight) (refusal : RecoverNo) → Refuses tells old new refusal → IsTrue tells → RaiseLeaves (unraised refusal) old new
nothing_raised tells old new errors.DiskFault r t = inl (r.bytes t)
nothing_raised tells old new (errors.Damaged place why) r t = (r.bytes t, r.firm t (λ is. absurd (cc is)))
nothing_raised tells old new errors.OutOfMemory r t = (r.bytes t, r.firm t (λ is. absurd (cc is)))

refused_stops : (tells : Bool) (old new : Sight) (refusal : RecoverNo) → Refuses tells old new refusal → IsTrue tells → LeavesOnly (LeavesRaise old) old new
refused_stops tells old new refusal r t = leaves_weaker (MayLeave (now old)) (LeavesRaise old) old new (λ image text may. inl may) (r.stops t)

-- no history was found
pub unraised_run : (tells : Bool) (old new : Sight) (refusal : RecoverNo) → Refuses tells old new refusal → (IsTrue tells → TellsAll old) → (IsTrue tells → TellsAll new) → RaiseRun tells old new (unraised refusal)
unraised_run tells old new refusal r told whole = record {
  disk_fault = λ is. r.fault (disk_from refusal is);
  goes = r.goes;
  syncs = let first = r.syncs in omega (arith, first);
  leaves = nothing_raised tells old new refusal r;
  silent = r.silent;
  whole = whole;
  damaged = λ t place why is. r.damaged t place why (damaged_from refusal place why is);
  only = λ t place why is. only_to refusal place why (r.only t place why is);
  stops = refused_stops tells old new refusal r;
  one = λ t. one_kept old new (told t) (refused_stops tells old new refusal r t);
  each = λ t. each_kept old new (told t) (refused_stops tells old new refusal r t);
  begins = λ t. begins_kept old new (told t) (refused_stops tells old new refusal r t);
  unfailed = λ quiet. refused_unfailed refusal (λ is. quiet (r.fault is));
  complete = λ t history spells quiet. want_memory refusal (r.spelled t history spells) (λ is. quiet (r.fault is));
}
