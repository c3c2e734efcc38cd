use Rattle.std.specs.Prelude.{◌≡◌, ℕ, ◌≤◌, Bool, IsTrue, List, [], ◌∷◌, ◌++◌, Option}
use Rattle.std.specs.Option.{option_map}
use Rattle.dali_outside.specs.Outside.{Sight, Goes, SameDisk, SameText}
use Rattle.dali_entry.specs.EntryRecord.{EntryRecord}
use Rattle.dali_tree.specs.declared.choice.Choice.{Choice}
use Rattle.dali_record.specs.IsRecord.{IsRecord}
use Rattle.dali_machine.specs.History.{IsNext, state_of}
use Rattle.dali_machine.specs.declared.outcome.Outcome.{Outcome}
use Rattle.dali_machine.specs.Cycles.{Cycling}
use Rattle.dali_machine.specs.Ready.{cycle_in}
use Rattle.dali_machine.specs.Outcomes.{IsReported}
use Rattle.dali_machine.specs.Step.{step}
use Rattle.dali_recover.specs.Damaged.{last_edition, IsNoEntry, IsIllegal, ReadsTo}
use Rattle.dali_recover.specs.Recovers.{IsReadTo}
use Rattle.dali_recover.specs.declared.found.Found.{Found}
use Rattle.dali_journal.specs.declared.refusal.Damage.TheVariants.{Entry, Illegal}
use Rattle.dali_recover.specs.declared.refusal.RecoverNo.{RecoverNo}
use Rattle.dali_recover.specs.declared.refusal.RecoverNo.TheVariants as errors
use Rattle.dali_recover.specs.declared.refusal.Denial.{Denial}
use Rattle.dali_recover.specs.declared.refusal.Denial.TheVariants as denials

-- the choice of the cycle that is answered, if it is one
abbrev pub choice_in : Outcome → Option Choice
choice_in outcome = option_map (λ (c : Cycling). c.choice) (cycle_in outcome)

-- an entry that has this record, of an edition from that of the last one to the journal's
pub record IsEntryFor (edition last : ℕ) (payload : List ℕ) (e : EntryRecord) : Type 0 where
  pub record_is : IsRecord payload e
  pub most : e.edition ≤ edition
  pub least : last ≤ e.edition

-- why a payload is no such entry's record
abbrev pub DeniesEntry : Denial → ℕ → ℕ → List ℕ → Type 0
DeniesEntry denials.Entry edition last payload = IsNoEntry edition last payload
DeniesEntry denials.Illegal edition last payload = ⊥
DeniesEntry denials.OutOfMemory edition last payload = Unit {0}

-- why a payload doesn't go on with a history in a journal of this edition
abbrev pub Denies : Denial → ℕ → List EntryRecord → List ℕ → Type 0
Denies denials.Entry edition history payload = IsNoEntry edition (last_edition 0 history) payload
Denies denials.Illegal edition history payload = IsIllegal edition (last_edition 0 history) (state_of history) payload
Denies denials.OutOfMemory edition history payload = Unit {0}

-- a payload is the record of the one more entry that a history in a journal of this edition is longer by
pub record GoesOnWith (edition : ℕ) (payload : List ℕ) (old new : List EntryRecord) : Type 0 where
  pub e : EntryRecord
  pub record_is : IsRecord payload e
  pub most : e.edition ≤ edition
  pub next : IsNext (state_of old) (last_edition 0 old) e
  pub reported : IsReported (step e.edition (state_of old) e.line e.choice).outcome
  pub longer : new ≡ old ++ e ∷ []

-- what is answered where the payload of the record at this place is denied
abbrev pub no_at : ℕ → Denial → RecoverNo
no_at place denials.Entry = errors.Damaged place Entry
no_at place denials.Illegal = errors.Damaged place Illegal
no_at place denials.OutOfMemory = errors.OutOfMemory

-- calls that read alone: nothing on the disk and the console changes, and nothing is synced
pub record Quiet (tells : Bool) (old new : Sight) : Type 0 where
  pub disk : IsTrue tells → SameDisk old new
  pub text : IsTrue tells → SameText old new
  pub goes : Goes old new
  pub syncs : new.syncs ≤ old.syncs

-- how far a journal was read since some moment
pub record SoFar (tells : Bool) (old now : Sight) (found : Found) : Type 0 where
  pub read : IsReadTo old.size found
  pub reads : IsTrue tells → ReadsTo found.journal.tail found.journal.edition found.entries old.bytes
  pub quiet : Quiet tells old now
