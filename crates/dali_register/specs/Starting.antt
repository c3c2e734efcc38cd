use Rattle.std.specs.Prelude.{◌≡◌, ℕ, ◌+◌, ◌≤◌, Bool, true, List}
use Rattle.dali_entry.specs.EntryRecord.{EntryRecord}
use Rattle.dali_journal.specs.JournalAt.{Reached}
use Rattle.dali_machine.specs.History.{IsLegal, state_of}
use Rattle.dali_machine.specs.Machine.{Machine, opening}
use Rattle.dali_outside.specs.Outside.{Sight}
use Rattle.dali_recover.specs.Reported.{AreReported}
use Rattle.dali_recover.specs.Spells.{AreEntriesIn}
use Rattle.dali_register.specs.Repeating.{Repeats}

-- What was found is on the device and the replies to all of it were printed: the state is that behind it, the journal is
-- at its closed gate, and one sync was made at most.
pub record Starts (told : Bool) (before : Sight) (found : List EntryRecord) (machine : Machine) (journal : Reached) (sight : Sight) : Type 0 where
  pub repeats : Repeats told before found found journal.tail journal.edition sight
  pub legal : IsLegal found
  pub held : AreEntriesIn journal.edition found
  pub reported : AreReported opening found
  pub machine_is : machine ≡ state_of found
  pub size : journal.tail + journal.left ≡ sight.size
  pub ended : journal.ended ≡ true
  pub syncs : sight.syncs ≤ before.syncs + 1
