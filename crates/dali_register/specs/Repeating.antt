use Rattle.std.specs.Prelude.{◌≡◌, ℕ, Bool, IsTrue, List, [], ◌∷◌, ◌++◌, Result, Ok, Err}
use Rattle.dali_entry.specs.EntryRecord.{EntryRecord}
use Rattle.dali_journal.specs.Appends.{AtRest}
use Rattle.dali_machine.specs.History.{state_of}
use Rattle.dali_machine.specs.Machine.{Machine}
use Rattle.dali_outside.specs.Outside.{Sight, Goes, Rose}
use Rattle.dali_outside.specs.Stops.{LeavesOnly}
use Rattle.dali_register.specs.Front.{PrintsFront}
use Rattle.dali_register.specs.Leaving.{LeavesDay}
use Rattle.dali_recover.specs.Spells.{records_of}
use Rattle.dali_register.specs.TextOf.{text_of}
use Rattle.dali_register.specs.declared.refusal.RegisterNo.{RegisterNo}
use Rattle.dali_register.specs.declared.refusal.RegisterNo.TheVariants.{DiskFault, PrintFault, JournalFull, OutOfMemory}

-- While the replies to what was found are printed again: the device has all of it, nothing is loose, and the replies to the
-- first entries were printed.
pub record Repeats (told : Bool) (before : Sight) (found done : List EntryRecord) (tail edition : ℕ) (sight : Sight) : Type 0 where
  pub rest : IsTrue told → AtRest tail edition (records_of found) sight
  pub text : IsTrue told → sight.printed ≡ before.printed ++ text_of done
  pub stops : IsTrue told → LeavesOnly (LeavesDay before found found) before sight
  pub goes : Goes before sight

-- one more reply was printed, and the state is that behind its entry
pub record RepeatsMore (told : Bool) (before : Sight) (found done : List EntryRecord) (tail edition : ℕ) (machine : Machine) (sight : Sight) : Type 0 where
  pub repeats : Repeats told before found done tail edition sight
  pub machine_is : machine ≡ state_of done

-- a put failed: a front of the text was printed
pub record RepeatsInPart (told : Bool) (before : Sight) (found : List EntryRecord) (tail edition : ℕ) (old new : Sight) : Type 0 where
  pub rest : IsTrue told → AtRest tail edition (records_of found) new
  pub text : IsTrue told → PrintsFront (text_of found) before new
  pub stops : IsTrue told → LeavesOnly (LeavesDay before found found) before new
  pub goes : Goes before new
  pub rose : Rose old.print_faults new.print_faults

-- what repeating an entry came to
abbrev pub Repeated : Bool → Sight → List EntryRecord → List EntryRecord → EntryRecord → ℕ → ℕ → Machine → Sight → Sight → Result Unit RegisterNo → Type 0
Repeated told before found done e tail edition machine old new (Ok u) = RepeatsMore told before found (done ++ e ∷ []) tail edition machine new
Repeated told before found done e tail edition machine old new (Err DiskFault) = ⊥
Repeated told before found done e tail edition machine old new (Err PrintFault) = RepeatsInPart told before found tail edition old new
Repeated told before found done e tail edition machine old new (Err (JournalFull need left)) = ⊥
Repeated told before found done e tail edition machine old new (Err OutOfMemory) = new ≡ old
