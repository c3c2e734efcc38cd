-- How a ship ends, by what recovery found.
use Rattle.std.proofs.Common.{◌≡◌, ◌⊎◌, ◌∙◌, inl, inr, ℕ, ◌<◌, ◌≤◌, Bool, false, List, [], ◌++◌, All, length, take, replicate, refl, sym, ap, subst, arith, append-nil, Result, Ok, Err}
use Rattle.std.specs.Prelude.{◌^◌, IsTrue}
use Rattle.dali_outside.specs.Outside.{Sight, Rose, Goes, TellsAll, SameDisk, now}
use Rattle.dali_outside.specs.Stops.{IsImage, MayLeave, LeavesOnly}
use Rattle.dali_outside.proofs.Images.{only_image}
use Rattle.dali_outside.proofs.Moments.{leaves_on, leaves_weaker}
use Rattle.dali_entry.specs.EntryRecord.{EntryRecord}
use Rattle.dali_journal.specs.Appends.{IsFirm}
use Rattle.dali_journal.specs.declared.refusal.Damage.{Damage}
use Rattle.dali_journal.proofs.RestLemmas.{rest_image}
use Rattle.dali_recover.specs.Recovers.{IsWant}
use Rattle.dali_recover.specs.declared.found.Found.{Found}
use Rattle.dali_recover.specs.declared.refusal.RecoverNo.{RecoverNo}
use Rattle.dali_recover.specs.declared.refusal.RecoverNo.TheVariants as errors
use Rattle.dali_recover.proofs.Reading.{few}
use Rattle.dali_upkeep.specs.Printing.{LeavesFront}
use Rattle.dali_upkeep.proofs.Putting.{goes_on}
use Rattle.dali_upkeep.proofs.Recovering.{Finds, Refuses, found_legal}
use Rattle.dali_replica.specs.Shipping.{shipped}
use Rattle.dali_ship.specs.ShipRun.{ShipPrints, ShipsHistory, LeavesShip, ShipsUnfailed, ShipRun}
use Rattle.dali_ship.specs.Printing.{SoFar, EndsWithin, PrintsOn}
use Rattle.dali_ship.specs.Ending.{unshipped, ended}
use Rattle.dali_ship.specs.declared.printing.PrintNo.{PrintNo}
use Rattle.dali_ship.specs.declared.printing.PrintNo.TheVariants as printing
use Rattle.dali_ship.specs.declared.ship.ShipEnd.{ShipEnd}
use Rattle.dali_ship.specs.declared.ship.ShipEnd.TheVariants.{Done, PrintFault, DiskFault, Damaged, OutOfMemory}
use Rattle.dali_ship.proofs.Framing.{frames_back}

-- what a disk that stayed as it was keeps
still_tells : (old new : Sight) → TellsAll old → SameDisk old new → Goes old new → TellsAll new
still_tells old new all same goes = record {
  bytes = ap length same.bytes ∙ all.bytes ∙ sym goes.same_size;
  loose = ap length same.loose ∙ all.loose ∙ sym goes.same_size;
  small = subst (All (λ b. b < 256)) (sym same.bytes) all.small;
}

still_firm : (old new : Sight) → SameDisk old new → IsFirm old → IsFirm new
still_firm old new same firm = same.loose ∙ firm ∙ ap (λ (ls : List Bool). replicate (length ls) false) (sym same.loose)

-- what an ended printing has in common, however it ended
record Ended (tells : Bool) (text : List ℕ) (mid new : Sight) : Type 0 where
  disk : IsTrue tells → SameDisk mid new
  stops : IsTrue tells → LeavesOnly (LeavesFront text mid) mid new
  goes : Goes mid new
  syncs : new.syncs ≤ mid.syncs

any_end : (r : Result Unit PrintNo) (tells : Bool) (text : List ℕ) (mid new : Sight) → PrintsOn r tells text [] [] mid new → Ended tells text mid new
any_end (Ok u) tells text mid new far = record { disk = far.disk; stops = far.stops; goes = far.goes; syncs = far.syncs }
any_end (Err e) tells text mid new far = record { disk = far.0.disk; stops = far.0.stops; goes = far.0.goes; syncs = far.0.syncs }

module _ (tells : Bool) (old mid new : Sight) (found : Found) (f : Finds tells old mid found) where
  -- all was printed
  whole : IsTrue tells → SoFar tells (shipped found.entries) [] [] mid new → new.printed ≡ old.printed ++ shipped found.entries
  whole t far =
      far.printed t ∙ ap (λ xs. xs ++ far.gone) (f.silent t) ∙ ap (λ xs. old.printed ++ xs) (sym (far.parts ∙ append-nil far.gone))

  front : IsTrue tells → EndsWithin tells (shipped found.entries) mid new → (n : ℕ) × (new.printed ≡ old.printed ++ take n (shipped found.entries))
  front t part =
      let some = part.front t in
      (some.0, some.1 ∙ ap (λ xs. xs ++ take some.0 (shipped found.entries)) (f.silent t))

  module _ (bound : old.size < 2 ^ 64) where
    short : length found.entries < 2 ^ 64
    short = let less = few old.size found bound f.is.read in let same = f.is.read.counted in omega (arith, less, same)

    prints_as : IsTrue tells → (r : Result Unit PrintNo) → PrintsOn r tells (shipped found.entries) [] [] mid new → ShipPrints (ended r) old new
    prints_as t (Ok u) far = record {
      history = found.entries;
      spelled = found_legal tells old mid found f t;
      whole = whole t far;
      frames = frames_back found.journal.edition found.entries f.is.read.entries f.is.read.legal short;
    }
    prints_as t (Err printing.PrintFault) part = let some = front t part.0 in record { history = found.entries; spelled = found_legal tells old mid found f t; n = some.0; front = some.1 }
    prints_as t (Err printing.OutOfMemory) part = let some = front t part.0 in inr (record { history = found.entries; spelled = found_legal tells old mid found f t; n = some.0; front = some.1 })

    history_as : IsTrue tells → (history : List EntryRecord) → found.entries ≡ history → (r : Result Unit PrintNo) → PrintsOn r tells (shipped found.entries) [] [] mid new → ShipsHistory (ended r) history old new
    history_as t history same (Ok u) far = whole t far ∙ ap (λ (es : List EntryRecord). old.printed ++ shipped es) same
    history_as t history same (Err printing.PrintFault) part = let some = front t part.0 in (some.0, some.1 ∙ ap (λ (es : List EntryRecord). old.printed ++ take some.0 (shipped es)) same)
    history_as t history same (Err printing.OutOfMemory) part = let some = front t part.0 in (some.0, some.1 ∙ ap (λ (es : List EntryRecord). old.printed ++ take some.0 (shipped es)) same)

    print_rose : (r : Result Unit PrintNo) → PrintsOn r tells (shipped found.entries) [] [] mid new → ended r ≡ PrintFault → Rose old.print_faults new.print_faults
    print_rose (Ok u) far is = absurd (cc)
    print_rose (Err printing.PrintFault) part is = let first = f.goes.print in let rose = part.1 in omega (arith, rose, first)
    print_rose (Err printing.OutOfMemory) part is = absurd (cc)

    no_disk_fault : (r : Result Unit PrintNo) → ended r ≡ DiskFault → ⊥
    no_disk_fault (Ok u) is = absurd (cc)
    no_disk_fault (Err printing.PrintFault) is = absurd (cc)
    no_disk_fault (Err printing.OutOfMemory) is = absurd (cc)

    no_damage : (r : Result Unit PrintNo) (place : ℕ) (why : Damage) → ended r ≡ Damaged place why → ⊥
    no_damage (Ok u) place why is = absurd (cc)
    no_damage (Err printing.PrintFault) place why is = absurd (cc)
    no_damage (Err printing.OutOfMemory) place why is = absurd (cc)

    done_or_want : (r : Result Unit PrintNo) → PrintsOn r tells (shipped found.entries) [] [] mid new → (Rose old.print_faults new.print_faults → ⊥) → (ended r ≡ Done) ⊎ (ended r ≡ OutOfMemory)
    done_or_want (Ok u) far quiet = inl refl
    done_or_want (Err printing.PrintFault) part quiet = absurd (quiet (print_rose (Err printing.PrintFault) part refl))
    done_or_want (Err printing.OutOfMemory) part quiet = inr refl

    is_unfailed : (answer : ShipEnd) → (answer ≡ Done) ⊎ (answer ≡ OutOfMemory) → ShipsUnfailed answer
    is_unfailed answer (inl done) = subst ShipsUnfailed (sym done) tt
    is_unfailed answer (inr want) = subst ShipsUnfailed (sym want) tt

    stops_as : IsTrue tells → TellsAll mid → Ended tells (shipped found.entries) mid new → LeavesOnly (LeavesShip old) old new
    stops_as t all p =
        leaves_on (LeavesShip old) old mid
        (leaves_weaker (MayLeave (now old)) (LeavesShip old) old mid (λ image text may. inl may) (f.stops t))
        new
        (leaves_weaker (LeavesFront (shipped found.entries) mid) (LeavesShip old) mid new
        (λ image text left.
        let same : image ≡ mid.bytes = only_image mid.bytes (length mid.loose) image (all.loose ∙ sym all.bytes) (subst (λ ls. IsImage mid.bytes ls image) (f.rests t).rest.firm left.disk) in
        inr (
          same ∙ f.bytes t,
          record {
            history = found.entries;
            spelled = found_legal tells old mid found f t;
            n = left.n;
            front = left.front ∙ ap (λ xs. xs ++ take left.n (shipped found.entries)) (f.silent t);
          },
        )) (p.stops t))

    -- a history was found, and its frames printed, or a front of them
    pub shipped_run : (r : Result Unit PrintNo) → (IsTrue tells → TellsAll mid) → PrintsOn r tells (shipped found.entries) [] [] mid new → ShipRun tells old new (ended r)
    shipped_run r told far =
        let p = any_end r tells (shipped found.entries) mid new far in
        record {
          disk_fault = λ is. absurd (no_disk_fault r is);
          print_fault = print_rose r far;
          goes = goes_on old mid new f.goes p.goes;
          bytes = λ t. (p.disk t).bytes ∙ f.bytes t;
          firm = λ t is. still_firm mid new (p.disk t) (f.rests t).rest.firm;
          syncs = let first = f.syncs in let second = p.syncs in omega (arith, first, second);
          prints = λ t. prints_as t r far;
          spelled = λ t history spells. history_as t history (f.spelled t history spells) r far;
          images = λ t is image text left. rest_image new (still_tells mid new (told t) (p.disk t) p.goes) (still_firm mid new (p.disk t) (f.rests t).rest.firm) image text left ∙ (p.disk t).bytes ∙ f.bytes t;
          whole = λ t. still_tells mid new (told t) (p.disk t) p.goes;
          damaged = λ t place why is. absurd (no_damage r place why is);
          only = λ t place why is. absurd (f.only t place why is);
          stops = λ t. stops_as t (told t) p;
          unfailed = λ disk print. is_unfailed (ended r) (done_or_want r far print);
          complete = λ t history spells disk print. done_or_want r far print;
        }

-- the answer of recovery that a ship's stands for
disk_from : (refusal : RecoverNo) → unshipped refusal ≡ DiskFault → refusal ≡ errors.DiskFault
disk_from errors.DiskFault is = refl
disk_from (errors.Damaged place why) is = absurd (cc)
disk_from errors.OutOfMemory is = absurd (cc)

damaged_from : (refusal : RecoverNo) (place : ℕ) (why : Damage) → unshipped refusal ≡ Damaged place why → refusal ≡ errors.Damaged place why
damaged_from errors.DiskFault place why is = absurd (cc)
damaged_from (errors.Damaged p w) place why is = cc is
damaged_from errors.OutOfMemory place why is = absurd (cc)

module _ (tells : Bool) (old new : Sight) where
  nothing_printed : (refusal : RecoverNo) → new.printed ≡ old.printed → ShipPrints (unshipped refusal) old new
  nothing_printed errors.DiskFault same = same
  nothing_printed (errors.Damaged place why) same = same
  nothing_printed errors.OutOfMemory same = inl same

  want_prints : (refusal : RecoverNo) (history : List EntryRecord) → IsWant refusal → new.printed ≡ old.printed → ShipsHistory (unshipped refusal) history old new
  want_prints errors.DiskFault history want same = same
  want_prints (errors.Damaged place why) history (inl is) same = absurd (cc)
  want_prints (errors.Damaged place why) history (inr is) same = absurd (cc)
  want_prints errors.OutOfMemory history want same = (0, same ∙ sym (append-nil old.printed))

  no_print_fault : (refusal : RecoverNo) → unshipped refusal ≡ PrintFault → ⊥
  no_print_fault errors.DiskFault is = absurd (cc)
  no_print_fault (errors.Damaged place why) is = absurd (cc)
  no_print_fault errors.OutOfMemory is = absurd (cc)

  refused_unfailed : (refusal : RecoverNo) → (refusal ≡ errors.DiskFault → ⊥) → ShipsUnfailed (unshipped refusal)
  refused_unfailed errors.DiskFault quiet = absurd (quiet refl)
  refused_unfailed (errors.Damaged place why) quiet = tt
  refused_unfailed errors.OutOfMemory quiet = tt

  want_memory : (refusal : RecoverNo) → IsWant refusal → (refusal ≡ errors.DiskFault → ⊥) → (unshipped refusal ≡ Done) ⊎ (unshipped refusal ≡ OutOfMemory)
  want_memory refusal (inl is) quiet = absurd (quiet is)
  want_memory refusal (inr is) quiet = inr (ap unshipped is)

  only_to : (refusal : RecoverNo) (place : ℕ) (why : Damage) → (refusal ≡ errors.Damaged place why) ⊎ IsWant refusal → (unshipped refusal ≡ Damaged place why) ⊎ ((unshipped refusal ≡ DiskFault) ⊎ (unshipped refusal ≡ OutOfMemory))
  only_to refusal place why (inl is) = inl (ap unshipped is)
  only_to refusal place why (inr (inl is)) = inr (inl (ap unshipped is))
  only_to refusal place why (inr (inr is)) = inr (inr (ap unshipped is))

  -- no history was found
  pub unshipped_run : (refusal : RecoverNo) → Refuses tells old new refusal → (IsTrue tells → TellsAll new) → ShipRun tells old new (unshipped refusal)
  unshipped_run refusal r told = record {
    disk_fault = λ is. r.fault (disk_from refusal is);
    print_fault = λ is. absurd (no_print_fault refusal is);
    goes = r.goes;
    bytes = r.bytes;
    firm = λ t is. r.firm t (λ fault. is (ap unshipped fault));
    syncs = r.syncs;
    prints = λ t. nothing_printed refusal (r.silent t);
    spelled = λ t history spells. want_prints refusal history (r.spelled t history spells) (r.silent t);
    images = λ t is image text left. rest_image new (told t) (r.firm t (λ fault. is (ap unshipped fault))) image text left ∙ r.bytes t;
    whole = told;
    damaged = λ t place why is. r.damaged t place why (damaged_from refusal place why is);
    only = λ t place why is. only_to refusal place why (r.only t place why is);
    stops = λ t. leaves_weaker (MayLeave (now old)) (LeavesShip old) old new (λ image text may. inl may) (r.stops t);
    unfailed = λ disk print. refused_unfailed refusal (λ is. disk (r.fault is));
    complete = λ t history spells disk print. want_memory refusal (r.spelled t history spells) (λ is. disk (r.fault is));
  }
