use Rattle.std.proofs.Common.{◌≡◌, ◌∙◌, ℕ, ◌≤◌, List, [], ◌∷◌, ◌++◌, length, refl, sym, ap, subst, append_assoc, append-nil}
use Rattle.std.specs.Prelude.{IsTrue}
use Rattle.std.specs.List.{All, AllByRecursion}
use Rattle.std.proofs.lemmas.List.Elements.{All-nil, All-cons}
use Rattle.dali_entry.specs.EntryRecord.{EntryRecord}
use Rattle.dali_line.specs.Line.{MOST_OF_COMMAND, is_line}
use Rattle.dali_machine.specs.History.{AreNext, after_entry}
use Rattle.dali_machine.specs.Machine.{Machine}
use Rattle.dali_register.specs.Front.{IsFront}
use Rattle.dali_register.specs.TextOf.{lines_of}
use Rattle.dali_register.proofs.Texts.{lines_append}
use Rattle.dali_day.proofs.InputEnds.{all_short}

-- each line of a history is one
lines_are : (m : Machine) (last : ℕ) (entries : List EntryRecord) → AreNext m last entries → All (λ line. IsTrue (is_line line)) (lines_of entries)
lines_are m last [] are = All-nil (λ line. IsTrue (is_line line))
lines_are m last (e ∷ entries) are = All-cons (λ line. IsTrue (is_line line)) e.line (lines_of entries) are.0.line (lines_are (after_entry m e) e.edition entries are.1)

-- so none is long
pub lines_short : (m : Machine) (last : ℕ) (entries : List EntryRecord) → AreNext m last entries → AllByRecursion (λ line. length line ≤ MOST_OF_COMMAND) (lines_of entries)
lines_short m last entries are = all_short (lines_of entries) (lines_are m last entries are)

pub lines_more : (entries : List EntryRecord) (e : EntryRecord) → lines_of (entries ++ e ∷ []) ≡ lines_of entries ++ e.line ∷ []
lines_more entries e = lines_append entries (e ∷ [])

-- the lines of a front are a front of the lines
pub lines_front : (front whole : List EntryRecord) → IsFront front whole → IsFront (lines_of front) (lines_of whole)
lines_front front whole is = record { rest = lines_of is.rest; parts = ap lines_of is.parts ∙ lines_append front is.rest }
