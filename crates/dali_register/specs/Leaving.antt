use Rattle.std.specs.Prelude.{◌≡◌, ◌⊎◌, ℕ, List, ◌++◌}
use Rattle.dali_entry.specs.EntryRecord.{EntryRecord}
use Rattle.dali_outside.specs.Outside.{Sight, now}
use Rattle.dali_outside.specs.Stops.{MayLeave}
use Rattle.dali_register.specs.Front.{IsFront}
use Rattle.dali_recover.specs.Spells.{Spells}
use Rattle.dali_register.specs.TextOf.{text_of}

-- an image spells a history that begins with the one found and is a front of all entries, and behind what was printed
-- before stands a front of its text
pub record SpellsFront (found all : List EntryRecord) (before image text : List ℕ) : Type 0 where
  pub history : List EntryRecord
  pub begins : IsFront found history
  pub within : IsFront history all
  pub spells : Spells image history
  pub shown : List ℕ
  pub printed : text ≡ before ++ shown
  pub front : IsFront shown (text_of history)

-- What a stop may leave while a day goes on from what it found to all of these entries: what one at the start may leave,
-- with nothing printed since, or a history and a front of its text.
abbrev pub LeavesDay : Sight → List EntryRecord → List EntryRecord → List ℕ → List ℕ → Type 0
LeavesDay old found all image text = MayLeave (now old) image text ⊎ SpellsFront found all old.printed image text
