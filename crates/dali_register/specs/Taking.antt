use Rattle.std.specs.Prelude.{◌≡◌, ℕ, ◌+◌, ◌<◌, Bool, IsTrue, List, [], ◌∷◌, ◌++◌, length, Result, Ok, Err}
use Rattle.dali_entry.specs.EntryRecord.{EntryRecord}
use Rattle.dali_outside.specs.Outside.{Sight, Goes, Rose}
use Rattle.dali_outside.specs.Stops.{LeavesOnly}
use Rattle.dali_journal.specs.Appends.{AtRest}
use Rattle.dali_machine.specs.History.{AreNext}
use Rattle.dali_machine.specs.Machine.{opening}
use Rattle.dali_record.specs.RecordText.{record_text}
use Rattle.dali_register.specs.Front.{IsFront, PrintsFront}
use Rattle.dali_register.specs.Leaving.{LeavesDay}
use Rattle.dali_recover.specs.Spells.{records_of}
use Rattle.dali_register.specs.Standing.{AreEntries, Stands, Spends, SoFar}
use Rattle.dali_register.specs.TextOf.{text_of, lines_of}
use Rattle.dali_register.specs.declared.refusal.RegisterNo.{RegisterNo}
use Rattle.dali_register.specs.declared.refusal.RegisterNo.TheVariants.{DiskFault, PrintFault, JournalFull, OutOfMemory}
use Rattle.dali_register.specs.declared.register.Register.{Register}

-- an append failed: a stop leaves the entries of before it or all of them, and what they print of all is the text of before
pub record GivesUp (told : Bool) (before : Sight) (found all : List EntryRecord) (edition : ℕ) (old new : Sight) : Type 0 where
  pub entries : AreEntries edition found all
  pub stops : IsTrue told → LeavesOnly (LeavesDay before found all) before new
  pub goes : Goes before new
  pub rose : Rose old.disk_faults new.disk_faults

-- a put failed: all entries are firm on the device, and a front of their text was printed
pub record PrintsInPart (told : Bool) (before : Sight) (found added : List EntryRecord) (tail edition : ℕ) (old new : Sight) : Type 0 where
  pub entries : AreEntries edition found (found ++ added)
  pub rest : IsTrue told → AtRest tail edition (records_of (found ++ added)) new
  pub text : IsTrue told → PrintsFront (text_of (found ++ added)) before new
  pub stops : IsTrue told → LeavesOnly (LeavesDay before found (found ++ added)) before new
  pub goes : Goes before new
  pub rose : Rose old.print_faults new.print_faults

-- what a flush came to: what was held back stands on the device and was printed, or a fault
abbrev pub Flushed : Bool → Sight → List EntryRecord → List EntryRecord → List EntryRecord → Register → Sight → Sight → Result Unit RegisterNo → Type 0
Flushed told before found added held r old new (Ok u) = Stands told before found (added ++ held) [] r new
Flushed told before found added held r old new (Err DiskFault) = GivesUp told before found ((found ++ added) ++ held) r.journal.edition old new
Flushed told before found added held r old new (Err PrintFault) = PrintsInPart told before found (added ++ held) r.journal.tail r.journal.edition old new
Flushed told before found added held r old new (Err (JournalFull need left)) = ⊥
Flushed told before found added held r old new (Err OutOfMemory) = ⊥

-- a line was taken as an entry of the journal's edition, and held back or printed
pub record TakesEntry (told : Bool) (before : Sight) (found known : List EntryRecord) (line : List ℕ) (r : Register) (new : Sight) : Type 0 where
  pub entry : EntryRecord
  pub line_is : entry.line ≡ line
  pub edition_is : entry.edition ≡ r.journal.edition
  pub added : List EntryRecord
  pub held : List EntryRecord
  pub whole : added ++ held ≡ known ++ entry ∷ []
  pub so_far : SoFar told before found added held r new

-- the line's record doesn't fit behind those of all entries so far, which are firm and printed
pub record FillsUp (told : Bool) (before : Sight) (found added : List EntryRecord) (line : List ℕ) (need left : ℕ) (r : Register) (new : Sight) : Type 0 where
  pub entry : EntryRecord
  pub line_is : entry.line ≡ line
  pub edition_is : entry.edition ≡ r.journal.edition
  pub next : AreNext opening 0 ((found ++ added) ++ entry ∷ [])
  pub need_is : need ≡ length (record_text entry) + 6
  pub left_is : left ≡ r.journal.left
  pub short : left < need
  pub stands : Stands told before found added [] r new
  pub spends : Spends 1 before added new

-- all entries so far are firm and printed, and the line wasn't taken
pub record WantsMemory (told : Bool) (before : Sight) (found added : List EntryRecord) (r : Register) (new : Sight) : Type 0 where
  pub stands : Stands told before found added [] r new
  pub spends : Spends 1 before added new

-- the disk failed with the line's entry, or before it
pub record Breaks (told : Bool) (before : Sight) (found added : List EntryRecord) (line : List ℕ) (edition : ℕ) (old new : Sight) : Type 0 where
  pub more : List EntryRecord
  pub lines : IsFront (lines_of more) (line ∷ [])
  pub gives_up : GivesUp told before found ((found ++ added) ++ more) edition old new

-- a print failed with the line's reply, or before it
pub record Mumbles (told : Bool) (before : Sight) (found added : List EntryRecord) (line : List ℕ) (tail edition : ℕ) (old new : Sight) : Type 0 where
  pub more : List EntryRecord
  pub lines : IsFront (lines_of more) (line ∷ [])
  pub in_part : PrintsInPart told before found (added ++ more) tail edition old new
  pub spends : Spends 1 before (added ++ more) new

-- what taking a line came to, where these entries were known beside those found
abbrev pub Took : Bool → Sight → List EntryRecord → List EntryRecord → List ℕ → Register → Sight → Sight → Result Unit RegisterNo → Type 0
Took told before found known line r old new (Ok u) = TakesEntry told before found known line r new
Took told before found known line r old new (Err DiskFault) = Breaks told before found known line r.journal.edition old new
Took told before found known line r old new (Err PrintFault) = Mumbles told before found known line r.journal.tail r.journal.edition old new
Took told before found known line r old new (Err (JournalFull need left)) = FillsUp told before found known line need left r new
Took told before found known line r old new (Err OutOfMemory) = WantsMemory told before found known r new
