use Rattle.std.specs.Prelude.{◌≡◌, ℕ, ◌≤◌}
use Rattle.dali_entry.specs.EntryRecord.{EntryRecord}
use Rattle.dali_machine.specs.Cycles.{accepted_cycle}
use Rattle.dali_machine.specs.History.{HasItsChoice}
use Rattle.dali_machine.specs.Machine.{Machine}
use Rattle.dali_machine.specs.Outcomes.{IsReported}
use Rattle.dali_machine.specs.Step.{judged, step}
use Rattle.dali_record.specs.IsRecord.{IsWithin}
use Rattle.dali_register.specs.Added.{HasFinest}

-- an entry that a journal of this edition may take in this state, as one of its own edition
pub record MayHold (edition : ℕ) (m : Machine) (e : EntryRecord) : Type 0 where
  pub own : e.edition ≡ edition
  pub within : IsWithin e
  pub choice : HasItsChoice m (judged e.edition m e.line) e.choice
  pub reported : IsReported (step e.edition m e.line e.choice).outcome
  pub finest : HasFinest m e.choice (accepted_cycle (judged e.edition m e.line))
