use Rattle.std.specs.Prelude.{◌≡◌, ℕ, ◌+◌, ◌*◌, ◌<◌, ◌≤◌, Bool, true, IsTrue, List, [], ◌∷◌, ◌++◌, length, Option, Some, None}
use Rattle.std.specs.List.{All, sum_by}
use Rattle.dali_entry.specs.EntryRecord.{EntryRecord}
use Rattle.dali_outside.specs.Outside.{Sight, Goes}
use Rattle.dali_outside.specs.Stops.{LeavesOnly}
use Rattle.dali_journal.specs.Appends.{AtRest}
use Rattle.dali_journal.specs.Frames.{frames_length}
use Rattle.dali_journal.specs.Limits.{most_payloads}
use Rattle.dali_machine.specs.History.{AreNext, state_of}
use Rattle.dali_machine.specs.Machine.{opening}
use Rattle.dali_tree.specs.declared.choice.Choice.{Choice}
use Rattle.dali_register.specs.Added.{AreAdded}
use Rattle.dali_register.specs.Leaving.{LeavesDay}
use Rattle.dali_recover.specs.Reported.{AreReported}
use Rattle.dali_recover.specs.Spells.{records_of, AreEntriesIn}
use Rattle.dali_register.specs.TextOf.{texts, text_of}
use Rattle.dali_register.specs.declared.register.Register.{Register}

-- The device has these entries, nothing is loose, their text was printed since the start, and a stop since then leaves
-- what a day may leave.
pub record HasKept (told : Bool) (before : Sight) (found kept : List EntryRecord) (tail edition : ℕ) (sight : Sight) : Type 0 where
  pub rest : IsTrue told → AtRest tail edition (records_of kept) sight
  pub text : IsTrue told → sight.printed ≡ before.printed ++ text_of kept
  pub stops : IsTrue told → LeavesOnly (LeavesDay before found kept) before sight
  pub goes : Goes before sight

-- entries that stand one after the other in a history, each within the journal's edition; what is answered to them is true;
-- and those behind the entries found are added ones
pub record AreEntries (edition : ℕ) (found entries : List EntryRecord) : Type 0 where
  pub legal : AreNext opening 0 entries
  pub held : AreEntriesIn edition entries
  pub reported : AreReported opening entries
  pub added : AreAdded edition found entries

-- a register is at its site: its journal is at the closed gate, and what it holds back fits behind it
pub record IsAtSite (r : Register) (sight : Sight) : Type 0 where
  pub size : r.journal.tail + r.journal.left ≡ sight.size
  pub ended : r.journal.ended ≡ true
  pub fits : frames_length r.group < r.journal.left

-- A register between two commands: it found some entries and added more, all of them firm on its device, and holds some
-- back with their replies; its state is that of all together.
pub record Stands (told : Bool) (before : Sight) (found added held : List EntryRecord) (r : Register) (sight : Sight) : Type 0 where
  pub at_site : IsAtSite r sight
  pub kept : HasKept told before found (found ++ added) r.journal.tail r.journal.edition sight
  pub entries : AreEntries r.journal.edition found ((found ++ added) ++ held)
  pub own : All (λ (e : EntryRecord). e.edition ≡ r.journal.edition) (added ++ held)
  pub machine : r.state.machine ≡ state_of ((found ++ added) ++ held)
  pub group : r.group ≡ records_of held
  pub replies : r.replies ≡ texts (state_of (found ++ added)) held
  pub few : length held ≤ most_payloads

-- 1 for an entry with a choice
abbrev pub cycle_count : Option Choice → ℕ
cycle_count (Some choice) = 1
cycle_count None = 0

-- how many of these entries are accepted cycles
abbrev pub cycles_in : List EntryRecord → ℕ
cycles_in entries = sum_by (λ (e : EntryRecord). cycle_count e.choice) entries

-- How many syncs were made for the added entries: one at the opening, and two for each append. An append is of as many entries
-- as a group has at most, or is one of the two of a cycle, or one of so many more.
pub record Spends (more : ℕ) (before : Sight) (added : List EntryRecord) (sight : Sight) : Type 0 where
  pub full : ℕ
  pub others : ℕ
  pub each : most_payloads * full ≤ length added
  pub few : others ≤ 2 * cycles_in added + more
  pub syncs : sight.syncs ≤ before.syncs + (1 + 2 * (full + others))

-- a register that may take the next command
pub record SoFar (told : Bool) (before : Sight) (found added held : List EntryRecord) (r : Register) (sight : Sight) : Type 0 where
  pub stands : Stands told before found added held r sight
  pub room : length held < most_payloads
  pub spends : Spends 0 before added sight
