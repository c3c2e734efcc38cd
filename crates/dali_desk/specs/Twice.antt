use Rattle.std.specs.Prelude.{◌≡◌, ◌≢◌, ◌⊎◌, ℕ, true, List, ◌++◌}
use Rattle.dali_entry.specs.EntryRecord.{EntryRecord}
use Rattle.dali_day.specs.CrashPrefix.{EachSpellsFirst}
use Rattle.dali_journal.specs.declared.refusal.Damage.{Damage}
use Rattle.dali_line.specs.Commands.{commands}
use Rattle.dali_outside.specs.Outside.{Feed, Sight, Rose}
use Rattle.dali_recover.specs.Spells.{SpellsLegal}
use Rattle.dali_register.specs.Front.{IsFront}
use Rattle.dali_register.specs.TextOf.{text_of, lines_of}
use Rattle.dali_desk.specs.DayOver.{DayOver}
use Rattle.dali_desk.specs.declared.status.Status.{Status}
use Rattle.dali_desk.specs.declared.status.Status.TheVariants.{Done, Invalid, Usage, ReadFault, PrintFault, DiskFault, Damaged, OtherDay}
use Rattle.dali_verdict.specs.declared.verdict.Why.{Why}

-- the device spells a legal history of all commands of a file, and the text printed since the start begins with its text
pub record DoneOnce (file : List ℕ) (before after : Sight) : Type 0 where
  pub history : List EntryRecord
  pub spells : SpellsLegal after.bytes history
  pub lines : lines_of history ≡ commands file
  pub rest : List ℕ
  pub text : after.printed ≡ before.printed ++ (text_of history ++ rest)

-- the device spells one, and the text printed since the start is a front of its text, and then all of it
pub record DoneAgain (file : List ℕ) (before after : Sight) : Type 0 where
  pub history : List EntryRecord
  pub spells : SpellsLegal after.bytes history
  pub lines : lines_of history ≡ commands file
  pub shown : List ℕ
  pub front : IsFront shown (text_of history)
  pub text : after.printed ≡ before.printed ++ (shown ++ text_of history)

-- the device spells one, and its text was printed twice
pub record DoneTwice (file : List ℕ) (before after : Sight) : Type 0 where
  pub history : List EntryRecord
  pub spells : SpellsLegal after.bytes history
  pub lines : lines_of history ≡ commands file
  pub text : after.printed ≡ before.printed ++ (text_of history ++ text_of history)

-- What two runs of one file come to, where the premise of the headline holds at the start: it holds at the end, the second
-- finds no damage and no other day, and each status comes by its cause in its own run.
pub record RunsTwice (first_old first_new second_old second_new : Feed) (before after : Sight) (one two : Status) : Type 0 where
  pub premise : EachSpellsFirst first_old.left after
  -- the moment between the runs
  pub between : Sight
  pub first : DayOver true true first_old first_new before between one
  pub second : DayOver true true second_old second_new between after two
  pub first_done : one ≡ Done → DoneOnce first_old.left before after
  pub second_done : two ≡ Done → DoneAgain first_old.left before after
  pub both_done : one ≡ Done → two ≡ Done → DoneTwice first_old.left before after
  pub no_usage : two ≢ Usage
  pub no_invalid : (why : Why) → two ≢ Invalid why
  pub no_damage : (place : ℕ) (why : Damage) → two ≢ Damaged place why
  pub no_other_day : (k : ℕ) → two ≢ OtherDay k
  pub read_fault : two ≡ ReadFault → Rose second_old.faults second_new.faults
  pub print_fault : two ≡ PrintFault → Rose before.print_faults after.print_faults
  pub disk_fault : two ≡ DiskFault → Rose before.disk_faults after.disk_faults
