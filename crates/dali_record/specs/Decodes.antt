use Rattle.std.specs.Prelude.{◌≡◌, ℕ, ◌≤◌, List, [], Result, Ok, Err, IfSome}
use Rattle.dali_base.specs.Limits.{newest_edition, most_items, most_lines}
use Rattle.dali_tree.specs.Fits.{Fits}
use Rattle.dali_entry.specs.EntryRecord.{EntryRecord}
use Rattle.dali_record.specs.declared.refusal.RecordNo.{RecordNo}
use Rattle.dali_record.specs.declared.refusal.RecordNo.TheVariants as errors
use Rattle.dali_record.specs.IsRecord.{IsRecord}

-- an answer about bytes: the entry whose record they are, or that they are the record of none
abbrev pub Decodes : List ℕ → Result EntryRecord RecordNo → Type 0
Decodes bytes (Ok e) = IsRecord bytes e
Decodes bytes (Err errors.Form) = (e : EntryRecord) → IsRecord bytes e → ⊥
Decodes bytes (Err errors.OutOfMemory) = Unit {0}

-- an entry that was read to the end of the bytes, in an edition that there is, whose choice fits
pub record IsWhole (e : EntryRecord) (rest : List ℕ) : Type 0 where
  pub ended : rest ≡ []
  pub first : 1 ≤ e.edition
  pub newest : e.edition ≤ newest_edition
  pub fits : IfSome e.choice (Fits most_items most_lines)
