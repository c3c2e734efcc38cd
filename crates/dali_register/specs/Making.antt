use Rattle.std.specs.Prelude.{◌≡◌, ℕ, List}
use Rattle.dali_entry.specs.EntryRecord.{EntryRecord}
use Rattle.dali_machine.specs.Machine.{Machine}
use Rattle.dali_machine.specs.Ready.{IsReady}
use Rattle.dali_record.specs.RecordText.{record_text}
use Rattle.dali_register.specs.TextOf.{answer_to}
use Rattle.dali_register.specs.declared.making.Made.{Made}

-- an entry's record, its reply in a state, and what was made ready of it
pub record IsMade (e : EntryRecord) (m : Machine) (made : Made) : Type 0 where
  pub record_is : made.record ≡ record_text e
  pub reply_is : made.reply ≡ answer_to m e
  pub ready_is : IsReady e.edition m e.line e.choice made.ready
