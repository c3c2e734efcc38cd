use Rattle.std.specs.Prelude.{◌≡◌, ◌⊎◌, ◌++◌, Bool, IsTrue, List, ℕ}
use Rattle.dali_outside.specs.Outside.{Sight, Rose}
use Rattle.dali_outside.specs.Stops.{LeavesOnly}
use Rattle.dali_verdict.specs.declared.verdict.Verdict.{Verdict}
use Rattle.dali_verdict.specs.declared.verdict.Verdict.TheVariants as verdicts
use Rattle.dali_register.specs.Front.{PrintsFront}
use Rattle.dali_desk.specs.Texts.{LeavesText, Quiet}
use Rattle.dali_desk.specs.CheckRun.{Says}
use Rattle.dali_desk.specs.declared.status.Status.{Status}
use Rattle.dali_desk.specs.declared.status.Status.TheVariants.{Done, Invalid, PrintFault, OutOfMemory}

-- How the judging of bytes ends, for a private function.

-- the status that a verdict stands for
abbrev pub status_of_verdict : Verdict → Status
status_of_verdict (verdicts.Valid figures) = Done
status_of_verdict (verdicts.Invalid why) = Invalid why

-- the verdict on the bytes was said, and the status stands for it
pub record SaysAll (told : Bool) (bytes : List ℕ) (before after : Sight) (status : Status) : Type 0 where
  pub verdict : Verdict
  pub text : List ℕ
  pub says : Says bytes verdict text
  pub is : status ≡ status_of_verdict verdict
  pub quiet : Quiet told before after
  pub printed : IsTrue told → after.printed ≡ before.printed ++ text
  pub stops : IsTrue told → LeavesOnly (LeavesText before text) before after

-- the put of the verdict failed
pub record SaysInPart (told : Bool) (bytes : List ℕ) (before after : Sight) : Type 0 where
  pub verdict : Verdict
  pub text : List ℕ
  pub says : Says bytes verdict text
  pub rose : Rose before.print_faults after.print_faults
  pub quiet : Quiet told before after
  pub front : IsTrue told → PrintsFront text before after
  pub stops : IsTrue told → LeavesOnly (LeavesText before text) before after

-- how it ended: the verdict was said, or in part, or memory was wanted and nothing was done
abbrev pub Judges : Bool → List ℕ → Sight → Sight → Status → Type 0
Judges told bytes before after status =
    SaysAll told bytes before after status ⊎ (((status ≡ PrintFault) × SaysInPart told bytes before after) ⊎ ((status ≡ OutOfMemory) × (after ≡ before)))
