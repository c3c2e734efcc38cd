use Rattle.std.specs.Prelude.{◌≡◌, ◌⊎◌, ℕ, Bool, List, Result, Ok, Err}
use Rattle.dali_gen.specs.Day.{generated}
use Rattle.dali_outside.specs.Outside.{Sight}
use Rattle.dali_put.specs.PutRun.{PutRun}
use Rattle.dali_put.specs.declared.refusal.PutNo.{PutNo}
use Rattle.dali_put.specs.declared.refusal.PutNo.TheVariants as puts
use Rattle.dali_trial.specs.Tried.{TrialRun}
use Rattle.dali_upkeep.specs.ExportRun.{ExportRun}
use Rattle.dali_upkeep.specs.RaiseRun.{RaiseRun}
use Rattle.dali_upkeep.specs.declared.export.ExportEnd.{ExportEnd}
use Rattle.dali_upkeep.specs.declared.export.ExportEnd.TheVariants as exports
use Rattle.dali_upkeep.specs.declared.raise.RaiseEnd.{RaiseEnd}
use Rattle.dali_upkeep.specs.declared.raise.RaiseEnd.TheVariants as raises
use Rattle.dali_desk.specs.declared.status.Status.{Status}
use Rattle.dali_desk.specs.declared.status.Status.TheVariants.{Done, PrintFault, DiskFault, Damaged, OutOfMemory}

-- the statuses of how an export, a raise and a print ended
abbrev pub status_of_export : ExportEnd → Status
status_of_export exports.Done = Done
status_of_export exports.PrintFault = PrintFault
status_of_export exports.DiskFault = DiskFault
status_of_export (exports.Damaged place why) = Damaged place why
status_of_export exports.OutOfMemory = OutOfMemory

abbrev pub status_of_raise : RaiseEnd → Status
status_of_raise raises.Done = Done
status_of_raise raises.DiskFault = DiskFault
status_of_raise (raises.Damaged place why) = Damaged place why
status_of_raise raises.OutOfMemory = OutOfMemory

abbrev pub status_of_put : Result Unit PutNo → Status
status_of_put (Ok u) = Done
status_of_put (Err puts.PrintFault) = PrintFault
status_of_put (Err puts.OutOfMemory) = OutOfMemory

-- What a run of `export` does: its status is that of the export's end.
pub record ExportOver (told : Bool) (old new : Sight) (status : Status) : Type 0 where
  pub end : ExportEnd
  pub status_is : status ≡ status_of_export end
  pub run : ExportRun told old new end

-- what a run of `raise` does
pub record RaiseOver (told : Bool) (old new : Sight) (status : Status) : Type 0 where
  pub end : RaiseEnd
  pub status_is : status ≡ status_of_raise end
  pub run : RaiseRun told old new end

-- what a run of `gen` does: it prints the generated day file in one put
pub record GenOver (n : ℕ) (told : Bool) (old new : Sight) (status : Status) : Type 0 where
  pub end : Result Unit PutNo
  pub status_is : status ≡ status_of_put end
  pub run : PutRun told (generated n) old new end

-- the summary of a trial of the generated day was printed in one put, or it wasn't printed whole
pub record SaysTrial (n : ℕ) (told : Bool) (old new : Sight) (status : Status) : Type 0 where
  pub text : List ℕ
  pub trial : TrialRun n text
  pub end : Result Unit PutNo
  pub status_is : status ≡ status_of_put end
  pub run : PutRun told text old new end

-- what a run of `trial` does; memory may be wanted before there is a summary, and then nothing was done
abbrev pub TrialOver : ℕ → Bool → Sight → Sight → Status → Type 0
TrialOver n told old new status = SaysTrial n told old new status ⊎ ((status ≡ OutOfMemory) × (new ≡ old))
