use Rattle.std.proofs.Common.{◌≡◌, ◌∙◌, ◌⊎◌, inl, inr, ℕ, ◌≤◌, ◌<◌, Bool, List, [], ◌++◌, length, refl, sym, ap, subst, arith, append-nil, length-append}
use Rattle.std.specs.Prelude.{IsTrue, Result, Ok, Err}
use Rattle.dali_outside.specs.Outside.{Feed, Sight, Rose, Goes}
use Rattle.dali_outside.specs.Stops.{LeavesOnly}
use Rattle.dali_gateway.specs.Form.{Spells, IsFormPlace}
use Rattle.dali_gateway.specs.Merge.{merge}
use Rattle.dali_gateway.proofs.Gates.{same_gate}
use Rattle.dali_day.specs.Complete.{IsClear}
use Rattle.dali_day.specs.CrashPrefix.{EachSpellsFirst}
use Rattle.dali_day.specs.declared.end.DayEnd.{DayEnd}
use Rattle.dali_day.specs.declared.end.DayEnd.TheVariants as ends
use Rattle.dali_desk.specs.DayOver.{status_of_day}
use Rattle.dali_desk.specs.GateOver.{KeepsInboxes, DayOverMerge, TakesMerge, GateCame, EndsGate, EndsUnmerged, Unmerged, MergePromises, GateOver, unfailing}
use Rattle.dali_desk.specs.Input.{TakesWhole, EndsInput, status_of_unread}
use Rattle.dali_desk.specs.Limits.{most_gated}
use Rattle.dali_desk.specs.declared.input.InputNo.{InputNo}
use Rattle.dali_desk.specs.declared.input.InputNo.TheVariants as inputs
use Rattle.dali_desk.specs.declared.status.Status.{Status}
use Rattle.dali_desk.specs.declared.status.Status.TheVariants.{Done, ReadFault, PrintFault, DiskFault, LongFile, OutOfMemory, NoGate}
use Rattle.dali_desk.proofs.Merging.{nothing_done}
use Rattle.dali_desk.proofs.Printing.{goes_nowhere}
use Rattle.dali_desk.proofs.Twice.{read_only, print_only, disk_only}

-- the statuses of an input that wasn't read whole, and of a day
ends_unread : (why : InputNo) → EndsGate (status_of_unread why)
ends_unread inputs.ReadFault = tt
ends_unread inputs.LongFile = tt
ends_unread inputs.OutOfMemory = tt

unmerged_unread : (input : List ℕ) (why : InputNo) → EndsUnmerged input (status_of_unread why)
unmerged_unread input inputs.ReadFault = tt
unmerged_unread input inputs.LongFile = tt
unmerged_unread input inputs.OutOfMemory = tt

ends_day : (e : DayEnd) → EndsGate (status_of_day e)
ends_day ends.Done = tt
ends_day ends.ReadFault = tt
ends_day ends.PrintFault = tt
ends_day ends.DiskFault = tt
ends_day (ends.Damaged place why) = tt
ends_day (ends.OtherDay k) = tt
ends_day (ends.LongLine k) = tt
ends_day ends.LongFile = tt
ends_day (ends.JournalFull need left) = tt
ends_day ends.OutOfMemory = tt

-- none of them says that there is no gateway input
no_gate_unread : (why : InputNo) (place : ℕ) → status_of_unread why ≡ NoGate place → ⊥
no_gate_unread inputs.ReadFault place is = Prim.cc
no_gate_unread inputs.LongFile place is = Prim.cc
no_gate_unread inputs.OutOfMemory place is = Prim.cc

no_gate_day : (e : DayEnd) (place : ℕ) → status_of_day e ≡ NoGate place → ⊥
no_gate_day ends.Done place is = Prim.cc
no_gate_day ends.ReadFault place is = Prim.cc
no_gate_day ends.PrintFault place is = Prim.cc
no_gate_day ends.DiskFault place is = Prim.cc
no_gate_day (ends.Damaged p why) place is = Prim.cc
no_gate_day (ends.OtherDay k) place is = Prim.cc
no_gate_day (ends.LongLine k) place is = Prim.cc
no_gate_day ends.LongFile place is = Prim.cc
no_gate_day (ends.JournalFull need left) place is = Prim.cc
no_gate_day ends.OutOfMemory place is = Prim.cc

-- an input that wasn't read whole is no fault of the site, and is a read fault only where the count rose
no_print_unread : (why : InputNo) → status_of_unread why ≡ PrintFault → ⊥
no_print_unread inputs.ReadFault is = Prim.cc
no_print_unread inputs.LongFile is = Prim.cc
no_print_unread inputs.OutOfMemory is = Prim.cc

no_disk_unread : (why : InputNo) → status_of_unread why ≡ DiskFault → ⊥
no_disk_unread inputs.ReadFault is = Prim.cc
no_disk_unread inputs.LongFile is = Prim.cc
no_disk_unread inputs.OutOfMemory is = Prim.cc

unread_rose : (s : Bool) (old new : Feed) (why : InputNo) → EndsInput s most_gated old new (Err why) → status_of_unread why ≡ ReadFault → Rose old.faults new.faults
unread_rose s old new inputs.ReadFault broke is = broke.rose
unread_rose s old new inputs.LongFile passed is = absurd (Prim.cc)
unread_rose s old new inputs.OutOfMemory wants is = absurd (Prim.cc)

-- neither is what says that there is none, nor want of memory
no_gate_status : (place : ℕ) → ((NoGate place ≡ ReadFault) → ⊥) × ((NoGate place ≡ PrintFault) → ⊥) × ((NoGate place ≡ DiskFault) → ⊥)
no_gate_status place = (λ is. Prim.cc, λ is. Prim.cc, λ is. Prim.cc)

memory_status : ((OutOfMemory ≡ ReadFault) → ⊥) × ((OutOfMemory ≡ PrintFault) → ⊥) × ((OutOfMemory ≡ DiskFault) → ⊥)
memory_status = (λ is. Prim.cc, λ is. Prim.cc, λ is. Prim.cc)

memory_is_some_gate : (place : ℕ) → OutOfMemory ≡ NoGate place → ⊥
memory_is_some_gate place is = Prim.cc

one_place : (p q : ℕ) → NoGate p ≡ NoGate q → p ≡ q
one_place p q is = Prim.cc

faults_go : (s : Bool) (old new : Feed) (read : Result (List ℕ) InputNo) → EndsInput s most_gated old new read → old.faults ≤ new.faults
faults_go s old new (Ok bytes) whole = omega (arith, whole.gathers.quiet)
faults_go s old new (Err inputs.ReadFault) broke = broke.faults
faults_go s old new (Err inputs.LongFile) passed = omega (arith, passed.quiet)
faults_go s old new (Err inputs.OutOfMemory) wants = omega (arith, wants.quiet)

-- What holds at each end.
module _ (s t : Bool) (old new : Feed) (before after : Sight) (status : Status) where
  ends_so : (read : Result (List ℕ) InputNo) → GateCame t read before after status → EndsGate status
  ends_so (Err why) came = subst EndsGate (sym came.0) (ends_unread why)
  ends_so (Ok bytes) (inl says) = subst EndsGate (sym says.said) tt
  ends_so (Ok bytes) (inr (inl takes)) = subst EndsGate (sym takes.day.day.status_is) (ends_day takes.day.day.end)
  ends_so (Ok bytes) (inr (inr none)) = subst EndsGate (sym none.0) tt

  read_rose : (read : Result (List ℕ) InputNo) → EndsInput s most_gated old new read → GateCame t read before after status → status ≡ ReadFault →
      Rose old.faults new.faults × (after ≡ before)
  read_rose (Err why) input came is = (unread_rose s old new why input (sym came.0 ∙ is), came.1)
  read_rose (Ok bytes) input (inl says) is = absurd ((no_gate_status says.place).0 (sym says.said ∙ is))
  read_rose (Ok bytes) input (inr (inl takes)) is =
      absurd (omega (arith, takes.day.day.day.counts.read (read_only takes.day.day.end (sym takes.day.day.status_is ∙ is))))
  read_rose (Ok bytes) input (inr (inr none)) is = absurd (memory_status.0 (sym none.0 ∙ is))

  print_rose : (read : Result (List ℕ) InputNo) → GateCame t read before after status → status ≡ PrintFault → Rose before.print_faults after.print_faults
  print_rose (Err why) came is = absurd (no_print_unread why (sym came.0 ∙ is))
  print_rose (Ok bytes) (inl says) is = absurd ((no_gate_status says.place).1 (sym says.said ∙ is))
  print_rose (Ok bytes) (inr (inl takes)) is = takes.day.day.day.counts.print (print_only takes.day.day.end (sym takes.day.day.status_is ∙ is))
  print_rose (Ok bytes) (inr (inr none)) is = absurd (memory_status.1 (sym none.0 ∙ is))

  disk_rose : (read : Result (List ℕ) InputNo) → GateCame t read before after status → status ≡ DiskFault → Rose before.disk_faults after.disk_faults
  disk_rose (Err why) came is = absurd (no_disk_unread why (sym came.0 ∙ is))
  disk_rose (Ok bytes) (inl says) is = absurd ((no_gate_status says.place).2 (sym says.said ∙ is))
  disk_rose (Ok bytes) (inr (inl takes)) is = takes.day.day.day.counts.disk (disk_only takes.day.day.end (sym takes.day.day.status_is ∙ is))
  disk_rose (Ok bytes) (inr (inr none)) is = absurd (memory_status.2 (sym none.0 ∙ is))

  goes_so : (read : Result (List ℕ) InputNo) → GateCame t read before after status → Goes before after
  goes_so (Err why) came = subst (Goes before) (sym came.1) (goes_nowhere before)
  goes_so (Ok bytes) (inl says) = subst (Goes before) (sym says.untouched) (goes_nowhere before)
  goes_so (Ok bytes) (inr (inl takes)) = takes.day.day.day.counts.goes
  goes_so (Ok bytes) (inr (inr none)) = subst (Goes before) (sym none.1) (goes_nowhere before)

-- What is said of the bytes that the source had left, where it tells.
module _ (s t : Bool) (old new : Feed) (before after : Sight) (status : Status) (s_tells : IsTrue s) where
  -- bytes that were read whole are all of them
  all_read : (bytes : List ℕ) → TakesWhole s most_gated old bytes new → old.left ≡ bytes
  all_read bytes whole = whole.gathers.moved s_tells ∙ ap (λ left. bytes ++ left) (whole.end s_tells) ∙ append-nil bytes

  no_gate : (read : Result (List ℕ) InputNo) → EndsInput s most_gated old new read → GateCame t read before after status → (place : ℕ) → status ≡ NoGate place →
      (length old.left ≤ most_gated) × (new.left ≡ []) × IsFormPlace old.left place
  no_gate (Err why) input came place is = absurd (no_gate_unread why place (sym came.0 ∙ is))
  no_gate (Ok bytes) whole (inl says) place is =
      let all : old.left ≡ bytes = all_read bytes whole in (
        omega (arith, ap length all, whole.gathers.within),
        whole.end s_tells,
        subst (λ xs. IsFormPlace xs place) (sym all) (subst (IsFormPlace bytes) (one_place says.place place (sym says.said ∙ is)) says.form),
      )
  no_gate (Ok bytes) whole (inr (inl takes)) place is = absurd (no_gate_day takes.day.day.end place (sym takes.day.day.status_is ∙ is))
  no_gate (Ok bytes) whole (inr (inr none)) place is = absurd (memory_is_some_gate place (sym none.0 ∙ is))

  unread : (why : InputNo) → GateCame t (Err why) before after status → Unmerged old.left before after status
  unread why came = record { ends = subst (EndsUnmerged old.left) (sym came.0) (unmerged_unread old.left why); untouched = came.1 }

  no_room : (status ≡ OutOfMemory) × (after ≡ before) → Unmerged old.left before after status
  no_room none = record { ends = subst (EndsUnmerged old.left) (sym none.0) tt; untouched = none.1 }

  form : (read : Result (List ℕ) InputNo) → EndsInput s most_gated old new read → GateCame t read before after status →
      ((inboxes : List (List ℕ)) (turns : List ℕ) → Spells old.left inboxes turns → ⊥) → Unmerged old.left before after status
  form (Err why) input came no_input = unread why came
  form (Ok bytes) whole (inl says) no_input = record {
    ends = subst (EndsUnmerged old.left) (sym says.said) (subst (λ xs. IsFormPlace xs says.place) (sym (all_read bytes whole)) says.form);
    untouched = says.untouched;
  }
  form (Ok bytes) whole (inr (inl takes)) no_input =
      absurd (no_input takes.inboxes takes.turns (subst (λ xs. Spells xs takes.inboxes takes.turns) (sym (all_read bytes whole)) takes.gate))
  form (Ok bytes) whole (inr (inr none)) no_input = no_room none

  long : (read : Result (List ℕ) InputNo) → EndsInput s most_gated old new read → GateCame t read before after status → most_gated < length old.left → Unmerged old.left before after status
  long (Err why) input came far = unread why came
  long (Ok bytes) whole came far = absurd (omega (arith, far, ap length (all_read bytes whole), whole.gathers.within))

  -- of the gateway input of these inboxes and turns
  module _ (inboxes : List (List ℕ)) (turns : List ℕ) (gate : Spells old.left inboxes turns) where
    here : (bytes : List ℕ) → TakesWhole s most_gated old bytes new → Spells bytes inboxes turns
    here bytes whole = subst (λ xs. Spells xs inboxes turns) (all_read bytes whole) gate

    own_day : (bytes : List ℕ) → TakesWhole s most_gated old bytes new → TakesMerge t bytes before after status → DayOverMerge t inboxes turns before after status
    own_day bytes whole takes =
        let same = same_gate bytes takes.inboxes inboxes takes.turns turns takes.gate (here bytes whole) in
        subst (λ ts. DayOverMerge t inboxes ts before after status) same.1 (subst (λ xs. DayOverMerge t xs takes.turns before after status) same.0 takes.day)

    day_or_none : (read : Result (List ℕ) InputNo) → EndsInput s most_gated old new read → GateCame t read before after status →
        DayOverMerge t inboxes turns before after status ⊎ Unmerged old.left before after status
    day_or_none (Err why) input came = inr (unread why came)
    day_or_none (Ok bytes) whole (inl says) = absurd (says.form.none inboxes turns (here bytes whole))
    day_or_none (Ok bytes) whole (inr (inl takes)) = inl (own_day bytes whole takes)
    day_or_none (Ok bytes) whole (inr (inr none)) = inr (no_room none)

    kept : DayOverMerge t inboxes turns before after status ⊎ Unmerged old.left before after status → IsTrue t → EachSpellsFirst (merge inboxes turns) before →
        LeavesOnly (KeepsInboxes inboxes turns before) before after
    kept (inl day) tells premise = day.prefix tells premise
    kept (inr none) tells premise = subst (LeavesOnly (KeepsInboxes inboxes turns before) before) (sym none.untouched) (nothing_done inboxes turns before premise)

    again : DayOverMerge t inboxes turns before after status ⊎ Unmerged old.left before after status → IsTrue t → EachSpellsFirst (merge inboxes turns) before →
        EachSpellsFirst (merge inboxes turns) after
    again (inl day) tells premise = (day.day.promises refl tells).twice premise
    again (inr none) tells premise = subst (EachSpellsFirst (merge inboxes turns)) (sym none.untouched) premise

    done_day : DayOverMerge t inboxes turns before after status → IsTrue t → EachSpellsFirst (merge inboxes turns) before →
        IsClear (record { left = merge inboxes turns; faults = old.faults }) new before after → (status ≡ Done) ⊎ (status ≡ OutOfMemory)
    done_day day tells premise clear =
        let own : IsClear (unfailing (merge inboxes turns)) (unfailing day.left) before after = record {
          short = clear.short;
          small = clear.small;
          fits = clear.fits;
          no_read = λ rose. omega (arith, rose);
          no_print = clear.no_print;
          no_disk = clear.no_disk;
        } in
        elim ((day.day.promises refl tells).complete premise own) [
          | inl done ↦ inl (day.day.status_is ∙ ap status_of_day done)
          | inr none ↦ inr (day.day.status_is ∙ ap status_of_day none)
        ]

    complete : (read : Result (List ℕ) InputNo) → EndsInput s most_gated old new read → GateCame t read before after status →
        IsTrue t → length old.left ≤ most_gated → EachSpellsFirst (merge inboxes turns) before →
        IsClear (record { left = merge inboxes turns; faults = old.faults }) new before after → (status ≡ Done) ⊎ (status ≡ OutOfMemory)
    complete (Err inputs.ReadFault) broke came tells small premise clear = absurd (clear.no_read broke.rose)
    complete (Err inputs.LongFile) passed came tells small premise clear =
        absurd (omega (arith, small, passed.past, ap length (passed.moved s_tells), length-append passed.taken new.left))
    complete (Err inputs.OutOfMemory) wants came tells small premise clear = inr came.0
    complete (Ok bytes) whole (inl says) tells small premise clear = absurd (says.form.none inboxes turns (here bytes whole))
    complete (Ok bytes) whole (inr (inl takes)) tells small premise clear = done_day (own_day bytes whole takes) tells premise clear
    complete (Ok bytes) whole (inr (inr none)) tells small premise clear = inr none.0

    merged : (read : Result (List ℕ) InputNo) → EndsInput s most_gated old new read → GateCame t read before after status → MergePromises t inboxes turns old new before after status
    merged read input came = record {
      came = day_or_none read input came;
      prefix = kept (day_or_none read input came);
      twice = again (day_or_none read input came);
      complete = complete read input came;
    }

-- a run of `gate` from how reading its input ended and what came of it
pub gated : (s t : Bool) (old new : Feed) (before after : Sight) (status : Status) (read : Result (List ℕ) InputNo) → EndsInput s most_gated old new read →
    GateCame t read before after status → GateOver s t old new before after status
gated s t old new before after status read input came = record {
  statuses = ends_so s t old new before after status read came;
  read_fault = read_rose s t old new before after status read input came;
  print_fault = print_rose s t old new before after status read came;
  disk_fault = disk_rose s t old new before after status read came;
  faults = faults_go s old new read input;
  goes = goes_so s t old new before after status read came;
  read = read;
  input = input;
  came = came;
  promises = λ tells. record {
    no_gate = no_gate s t old new before after status tells read input came;
    form = form s t old new before after status tells read input came;
    long = long s t old new before after status tells read input came;
    merged = λ inboxes turns gate. merged s t old new before after status tells inboxes turns gate read input came;
  };
}
