-- How an export ends, by what recovery found.
use Rattle.std.proofs.Common.{◌≡◌, ◌⊎◌, ◌∙◌, inl, inr, ℕ, ◌<◌, Bool, false, List, ◌++◌, All, length, take, replicate, refl, sym, ap, subst, arith}
use Rattle.std.specs.Prelude.{IsTrue}
use Rattle.dali_outside.specs.Outside.{Sight, Rose, Goes, TellsAll, SameDisk, now}
use Rattle.dali_outside.specs.Stops.{IsImage, MayLeave, LeavesOnly}
use Rattle.dali_outside.proofs.Images.{only_image}
use Rattle.dali_outside.proofs.Moments.{leaves_on, leaves_weaker}
use Rattle.dali_entry.specs.EntryRecord.{EntryRecord}
use Rattle.dali_machine.specs.Machine.{Machine}
use Rattle.dali_journal.specs.Appends.{IsFirm}
use Rattle.dali_journal.specs.declared.refusal.Damage.{Damage}
use Rattle.dali_journal.proofs.RestLemmas.{rest_image}
use Rattle.dali_statement.specs.Export.{table}
use Rattle.dali_recover.specs.Recovers.{IsWant}
use Rattle.dali_recover.specs.declared.found.Found.{Found}
use Rattle.dali_recover.specs.declared.refusal.RecoverNo.{RecoverNo}
use Rattle.dali_recover.specs.declared.refusal.RecoverNo.TheVariants as errors
use Rattle.dali_upkeep.specs.ExportRun.{table_of, ExportPrints, ExportsHistory, LeavesExport, ExportsUnfailed, ExportRun}
use Rattle.dali_upkeep.specs.Printing.{unexported, LeavesFront, PrintsOf, EndsPrinting, PrintsTable}
use Rattle.dali_upkeep.specs.declared.export.ExportEnd.{ExportEnd}
use Rattle.dali_upkeep.specs.declared.export.ExportEnd.TheVariants.{Done, PrintFault, DiskFault, Damaged, OutOfMemory}
use Rattle.dali_upkeep.proofs.Putting.{goes_on}
use Rattle.dali_upkeep.proofs.Recovering.{Finds, Refuses, found_legal}

-- what a disk that stayed as it was keeps
still_tells : (old new : Sight) → TellsAll old → SameDisk old new → Goes old new → TellsAll new
still_tells old new all same goes = record {
  bytes = ap length same.bytes ∙ all.bytes ∙ sym goes.same_size;
  loose = ap length same.loose ∙ all.loose ∙ sym goes.same_size;
  small = subst (All (λ b. b < 256)) (sym same.bytes) all.small;
}

still_firm : (old new : Sight) → SameDisk old new → IsFirm old → IsFirm new
still_firm old new same firm = same.loose ∙ firm ∙ ap (λ (ls : List Bool). replicate (length ls) false) (sym same.loose)

module _ (tells : Bool) (old mid new : Sight) (found : Found) (f : Finds tells old mid found) where
  text_is : table found.state.machine.postings ≡ table_of found.entries
  text_is = ap (λ (m : Machine). table m.postings) f.is.read.state

  prints_as : IsTrue tells → (answer : ExportEnd) → PrintsOf answer (table found.state.machine.postings) mid new → ExportPrints answer old new
  prints_as t Done p = record {
    history = found.entries;
    spelled = found_legal tells old mid found f t;
    whole = p ∙ ap (λ xs. xs ++ table found.state.machine.postings) (f.silent t) ∙ ap (λ xs. old.printed ++ xs) text_is;
  }
  prints_as t PrintFault p = record {
    history = found.entries;
    spelled = found_legal tells old mid found f t;
    n = p.0;
    front = p.1 ∙ ap (λ xs. xs ++ take p.0 (table found.state.machine.postings)) (f.silent t) ∙ ap (λ xs. old.printed ++ take p.0 xs) text_is;
  }
  prints_as t DiskFault p = absurd p
  prints_as t (Damaged place why) p = absurd p
  prints_as t OutOfMemory p = p ∙ f.silent t

  history_as : IsTrue tells → (history : List EntryRecord) → found.entries ≡ history → (answer : ExportEnd) → PrintsOf answer (table found.state.machine.postings) mid new → ExportsHistory answer history old new
  history_as t history same Done p =
      p ∙ ap (λ xs. xs ++ table found.state.machine.postings) (f.silent t) ∙ ap (λ xs. old.printed ++ xs) (text_is ∙ ap table_of same)
  history_as t history same PrintFault p =
      (p.0, p.1 ∙ ap (λ xs. xs ++ take p.0 (table found.state.machine.postings)) (f.silent t) ∙ ap (λ xs. old.printed ++ take p.0 xs) (text_is ∙ ap table_of same))
  history_as t history same DiskFault p = absurd p
  history_as t history same (Damaged place why) p = absurd p
  history_as t history same OutOfMemory p = p ∙ f.silent t

  print_rose : (answer : ExportEnd) → EndsPrinting answer mid new → answer ≡ PrintFault → Rose old.print_faults new.print_faults
  print_rose Done ends is = absurd (cc)
  print_rose PrintFault ends is = let first = f.goes.print in omega (arith, ends, first)
  print_rose DiskFault ends is = absurd ends
  print_rose (Damaged place why) ends is = absurd ends
  print_rose OutOfMemory ends is = absurd (cc)

  no_disk_fault : (answer : ExportEnd) → EndsPrinting answer mid new → answer ≡ DiskFault → ⊥
  no_disk_fault answer ends is = subst (λ a. EndsPrinting a mid new) is ends

  no_damage : (answer : ExportEnd) → EndsPrinting answer mid new → (place : ℕ) (why : Damage) → answer ≡ Damaged place why → ⊥
  no_damage answer ends place why is = subst (λ a. EndsPrinting a mid new) is ends

  unfailed_as : (answer : ExportEnd) → EndsPrinting answer mid new → (Rose old.print_faults new.print_faults → ⊥) → (answer ≡ Done) ⊎ (answer ≡ OutOfMemory)
  unfailed_as Done ends quiet = inl refl
  unfailed_as PrintFault ends quiet = absurd (quiet (print_rose PrintFault ends refl))
  unfailed_as DiskFault ends quiet = absurd ends
  unfailed_as (Damaged place why) ends quiet = absurd ends
  unfailed_as OutOfMemory ends quiet = inr refl

  is_unfailed : (answer : ExportEnd) → (answer ≡ Done) ⊎ (answer ≡ OutOfMemory) → ExportsUnfailed answer
  is_unfailed answer (inl done) = subst ExportsUnfailed (sym done) tt
  is_unfailed answer (inr want) = subst ExportsUnfailed (sym want) tt

  stops_as : (answer : ExportEnd) → IsTrue tells → PrintsTable tells found.state.machine.postings mid new answer → LeavesOnly (LeavesExport old) old new
  stops_as answer t p =
      let all = p.told t in
      leaves_on (LeavesExport old) old mid
      (leaves_weaker (MayLeave (now old)) (LeavesExport old) old mid (λ image text may. inl may) (f.stops t))
      new
      (leaves_weaker (LeavesFront (table found.state.machine.postings) mid) (LeavesExport old) mid new
      (λ image text left.
      let same : image ≡ mid.bytes = only_image mid.bytes (length mid.loose) image (all.loose ∙ sym all.bytes) (subst (λ ls. IsImage mid.bytes ls image) (f.rests t).rest.firm left.disk) in
      inr (
        same ∙ f.bytes t,
        record {
          history = found.entries;
          spelled = found_legal tells old mid found f t;
          n = left.n;
          front = left.front ∙ ap (λ xs. xs ++ take left.n (table found.state.machine.postings)) (f.silent t) ∙ ap (λ xs. old.printed ++ take left.n xs) text_is;
        },
      )) (p.stops t))

  -- a history was found, and its table printed, or a front of it
  pub exported : (answer : ExportEnd) → PrintsTable tells found.state.machine.postings mid new answer → ExportRun tells old new answer
  exported answer p = record {
    disk_fault = λ is. absurd (no_disk_fault answer p.ends is);
    print_fault = print_rose answer p.ends;
    goes = goes_on old mid new f.goes p.goes;
    bytes = λ t. (p.disk t).bytes ∙ f.bytes t;
    firm = λ t is. still_firm mid new (p.disk t) (f.rests t).rest.firm;
    syncs = let first = f.syncs in let second = p.syncs in omega (arith, first, second);
    prints = λ t. prints_as t answer (p.prints t);
    spelled = λ t history spells. history_as t history (f.spelled t history spells) answer (p.prints t);
    images = λ t is image text left. rest_image new (still_tells mid new (p.told t) (p.disk t) p.goes) (still_firm mid new (p.disk t) (f.rests t).rest.firm) image text left ∙ (p.disk t).bytes ∙ f.bytes t;
    whole = λ t. still_tells mid new (p.told t) (p.disk t) p.goes;
    damaged = λ t place why is. absurd (no_damage answer p.ends place why is);
    only = λ t place why is. absurd (f.only t place why is);
    stops = λ t. stops_as answer t p;
    unfailed = λ disk print. is_unfailed answer (unfailed_as answer p.ends print);
    complete = λ t history spells disk print. unfailed_as answer p.ends print;
  }

-- the answer of recovery that an export's stands for
pub disk_from : (refusal : RecoverNo) → unexported refusal ≡ DiskFault → refusal ≡ errors.DiskFault
disk_from errors.DiskFault is = refl
disk_from (errors.Damaged place why) is = absurd (cc)
disk_from errors.OutOfMemory is = absurd (cc)

pub damaged_from : (refusal : RecoverNo) (place : ℕ) (why : Damage) → unexported refusal ≡ Damaged place why → refusal ≡ errors.Damaged place why
damaged_from errors.DiskFault place why is = absurd (cc)
damaged_from (errors.Damaged p w) place why is = cc is
damaged_from errors.OutOfMemory place why is = absurd (cc)

pub want_to : (refusal : RecoverNo) → IsWant refusal → (unexported refusal ≡ DiskFault) ⊎ (unexported refusal ≡ OutOfMemory)
want_to refusal (inl is) = inl (ap unexported is)
want_to refusal (inr is) = inr (ap unexported is)

module _ (tells : Bool) (old new : Sight) where
  nothing_printed : (refusal : RecoverNo) → new.printed ≡ old.printed → ExportPrints (unexported refusal) old new
  nothing_printed errors.DiskFault same = same
  nothing_printed (errors.Damaged place why) same = same
  nothing_printed errors.OutOfMemory same = same

  want_prints : (refusal : RecoverNo) (history : List EntryRecord) → IsWant refusal → new.printed ≡ old.printed → ExportsHistory (unexported refusal) history old new
  want_prints errors.DiskFault history want same = same
  want_prints (errors.Damaged place why) history (inl is) same = absurd (cc)
  want_prints (errors.Damaged place why) history (inr is) same = absurd (cc)
  want_prints errors.OutOfMemory history want same = same

  no_print_fault : (refusal : RecoverNo) → unexported refusal ≡ PrintFault → ⊥
  no_print_fault errors.DiskFault is = absurd (cc)
  no_print_fault (errors.Damaged place why) is = absurd (cc)
  no_print_fault errors.OutOfMemory is = absurd (cc)

  refused_unfailed : (refusal : RecoverNo) → (refusal ≡ errors.DiskFault → ⊥) → ExportsUnfailed (unexported refusal)
  refused_unfailed errors.DiskFault quiet = absurd (quiet refl)
  refused_unfailed (errors.Damaged place why) quiet = tt
  refused_unfailed errors.OutOfMemory quiet = tt

  want_memory : (refusal : RecoverNo) → IsWant refusal → (refusal ≡ errors.DiskFault → ⊥) → (unexported refusal ≡ Done) ⊎ (unexported refusal ≡ OutOfMemory)
  want_memory refusal (inl is) quiet = absurd (quiet is)
  want_memory refusal (inr is) quiet = inr (ap unexported is)

  only_to : (refusal : RecoverNo) (place : ℕ) (why : Damage) → (refusal ≡ errors.Damaged place why) ⊎ IsWant refusal → (unexported refusal ≡ Damaged place why) ⊎ ((unexported refusal ≡ DiskFault) ⊎ (unexported refusal ≡ OutOfMemory))
  only_to refusal place why (inl is) = inl (ap unexported is)
  only_to refusal place why (inr want) = inr (want_to refusal want)

  -- no history was found
  pub unexported_run : (refusal : RecoverNo) → Refuses tells old new refusal → (IsTrue tells → TellsAll new) → ExportRun tells old new (unexported refusal)
  unexported_run refusal r told = record {
    disk_fault = λ is. r.fault (disk_from refusal is);
    print_fault = λ is. absurd (no_print_fault refusal is);
    goes = r.goes;
    bytes = r.bytes;
    firm = λ t is. r.firm t (λ fault. is (ap unexported fault));
    syncs = r.syncs;
    prints = λ t. nothing_printed refusal (r.silent t);
    spelled = λ t history spells. want_prints refusal history (r.spelled t history spells) (r.silent t);
    images = λ t is image text left. rest_image new (told t) (r.firm t (λ fault. is (ap unexported fault))) image text left ∙ r.bytes t;
    whole = told;
    damaged = λ t place why is. r.damaged t place why (damaged_from refusal place why is);
    only = λ t place why is. only_to refusal place why (r.only t place why is);
    stops = λ t. leaves_weaker (MayLeave (now old)) (LeavesExport old) old new (λ image text may. inl may) (r.stops t);
    unfailed = λ disk print. refused_unfailed refusal (λ is. disk (r.fault is));
    complete = λ t history spells disk print. want_memory refusal (r.spelled t history spells) (λ is. disk (r.fault is));
  }
