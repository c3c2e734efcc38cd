use Rattle.std.specs.Prelude.{◌≡◌, ℕ, ◌+◌, ◌≤◌, Bool, IsTrue, List, [], ◌++◌, length, Result, Ok, Err}
use Rattle.dali_outside.specs.Outside.{Feed, Rose}
use Rattle.dali_desk.specs.declared.input.InputNo.{InputNo}
use Rattle.dali_desk.specs.declared.input.InputNo.TheVariants as inputs
use Rattle.dali_desk.specs.declared.status.Status.{Status}
use Rattle.dali_desk.specs.declared.status.Status.TheVariants.{ReadFault, LongFile, OutOfMemory}

-- What reading a whole input of at most so many bytes comes to.

-- these bytes were taken since some moment, and no take failed
pub record Gathers (told : Bool) (most : ℕ) (old : Feed) (bytes : List ℕ) (new : Feed) : Type 0 where
  pub moved : IsTrue told → old.left ≡ bytes ++ new.left
  pub within : length bytes ≤ most
  pub quiet : new.faults ≡ old.faults

-- the end of input was met
pub record TakesWhole (told : Bool) (most : ℕ) (old : Feed) (bytes : List ℕ) (new : Feed) : Type 0 where
  pub gathers : Gathers told most old bytes new
  pub end : IsTrue told → new.left ≡ []

-- a take failed
pub record BreaksOff (told : Bool) (most : ℕ) (old new : Feed) : Type 0 where
  pub taken : List ℕ
  pub moved : IsTrue told → old.left ≡ taken ++ new.left
  pub within : length taken ≤ most
  pub faults : old.faults ≤ new.faults
  pub rose : Rose old.faults new.faults

-- one byte more was taken than there may be
pub record PassesMost (told : Bool) (most : ℕ) (old new : Feed) : Type 0 where
  pub taken : List ℕ
  pub moved : IsTrue told → old.left ≡ taken ++ new.left
  pub past : length taken ≡ most + 1
  pub quiet : new.faults ≡ old.faults

-- memory was wanted
pub record WantsMemory (told : Bool) (most : ℕ) (old new : Feed) : Type 0 where
  pub taken : List ℕ
  pub moved : IsTrue told → old.left ≡ taken ++ new.left
  pub within : length taken ≤ most
  pub quiet : new.faults ≡ old.faults

-- how far the input was read, by the answer
abbrev pub EndsInput : Bool → ℕ → Feed → Feed → Result (List ℕ) InputNo → Type 0
EndsInput told most old new (Ok bytes) = TakesWhole told most old bytes new
EndsInput told most old new (Err inputs.ReadFault) = BreaksOff told most old new
EndsInput told most old new (Err inputs.LongFile) = PassesMost told most old new
EndsInput told most old new (Err inputs.OutOfMemory) = WantsMemory told most old new

-- the status that stands for an input that wasn't read whole
abbrev pub status_of_unread : InputNo → Status
status_of_unread inputs.ReadFault = ReadFault
status_of_unread inputs.LongFile = LongFile
status_of_unread inputs.OutOfMemory = OutOfMemory
