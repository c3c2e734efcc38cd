use Rattle.std.specs.Prelude.{ℕ, ◌+◌, ◌⊎◌, List, [], ◌∷◌, if◌then◌else◌, nat_lt}
use Rattle.dali_base.specs.Limits.{newest_edition}
use Rattle.dali_outside.specs.Outside.{overlay}
use Rattle.dali_entry.specs.EntryRecord.{EntryRecord}
use Rattle.dali_machine.specs.History.{IsLegal}
use Rattle.dali_journal.specs.Holds.{Holds}
use Rattle.dali_recover.specs.Spells.{records_of, AreEntriesIn}

-- an image spells a legal history in a journal of this edition
pub record SpellsIn (edition : ℕ) (history : List EntryRecord) (image : List ℕ) : Type 0 where
  pub holds : Holds edition (records_of history) image
  pub entries : AreEntriesIn edition history
  pub legal : IsLegal history

-- in a journal of this edition or of the next
abbrev pub SpellsInEither : ℕ → List EntryRecord → List ℕ → Type 0
SpellsInEither edition history image = SpellsIn edition history image ⊎ SpellsIn (edition + 1) history image

-- the edition that a raise brings a journal of this one to: the next, where there is one
abbrev pub raised_edition : ℕ → ℕ
raised_edition edition = if nat_lt edition newest_edition then edition + 1 else edition

-- the bytes that a raise makes of a journal of this edition: its next edition byte is 1, where there is one
abbrev pub raised_bytes : ℕ → List ℕ → List ℕ
raised_bytes edition bytes = if nat_lt edition newest_edition then overlay bytes (11 + edition) (1 ∷ []) else bytes
