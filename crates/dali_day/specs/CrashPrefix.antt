use Rattle.std.specs.Prelude.{◌≡◌, ℕ, List, ◌++◌}
use Rattle.dali_entry.specs.EntryRecord.{EntryRecord}
use Rattle.dali_line.specs.Commands.{commands}
use Rattle.dali_machine.specs.Machine.{opening}
use Rattle.dali_outside.specs.Outside.{Sight, now}
use Rattle.dali_outside.specs.Stops.{MayLeave, Keeps, LeavesOnly}
use Rattle.dali_marks.specs.AreTrue.{AreTrue}
use Rattle.dali_recover.specs.Spells.{Spells, SpellsLegal}
use Rattle.dali_register.specs.Front.{IsFront}
use Rattle.dali_register.specs.TextOf.{text_of, lines_of}

-- an image spells a legal history whose lines are the first commands of a file
pub record SpellsFirst (file image : List ℕ) : Type 0 where
  pub history : List EntryRecord
  pub spells : SpellsLegal image history
  pub first : IsFront (lines_of history) (commands file)

-- The premise of the headline: every image that a stop now may leave spells such a history.
abbrev pub EachSpellsFirst : List ℕ → Sight → Type 0
EachSpellsFirst file s = Keeps (λ image text. SpellsFirst file image) (now s)

-- a history that begins with one that some image at the start spells
pub record BeginsAtStart (before : Sight) (history : List EntryRecord) : Type 0 where
  pub image : List ℕ
  pub text : List ℕ
  pub left : MayLeave (now before) image text
  pub start : List EntryRecord
  pub spells : Spells image start
  pub begins : IsFront start history

-- The law of a stop: the image spells a legal history, whose lines are the first commands of the file; the text printed
-- since the start is a front of its text; it begins with a history of the start; and what is answered to it is true.
pub record KeepsPrefix (file : List ℕ) (before : Sight) (image text : List ℕ) : Type 0 where
  pub history : List EntryRecord
  pub spells : SpellsLegal image history
  pub first : IsFront (lines_of history) (commands file)
  pub shown : List ℕ
  pub printed : text ≡ before.printed ++ shown
  pub front : IsFront shown (text_of history)
  pub begins : BeginsAtStart before history
  pub marks : AreTrue opening history

-- at every moment since the start
abbrev pub CrashPrefix : List ℕ → Sight → Sight → Type 0
CrashPrefix file before after = LeavesOnly (KeepsPrefix file before) before after
