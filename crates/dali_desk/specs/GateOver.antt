use Rattle.std.specs.Prelude.{◌≡◌, ◌⊎◌, ℕ, ◌<◌, ◌≤◌, Bool, true, IsTrue, List, [], length, Result, Ok, Err}
use Rattle.dali_outside.specs.Outside.{Feed, Sight, Rose, Goes}
use Rattle.dali_outside.specs.Stops.{LeavesOnly}
use Rattle.dali_line.specs.Commands.{commands}
use Rattle.dali_gateway.specs.Form.{Spells, IsFormPlace}
use Rattle.dali_gateway.specs.Merge.{merge}
use Rattle.dali_gateway.specs.Order.{givers, share, sent, KeepsOrder}
use Rattle.dali_register.specs.Front.{IsFront}
use Rattle.dali_register.specs.TextOf.{lines_of}
use Rattle.dali_day.specs.Complete.{IsClear}
use Rattle.dali_day.specs.CrashPrefix.{EachSpellsFirst, KeepsPrefix}
use Rattle.dali_desk.specs.DayOver.{DayOver}
use Rattle.dali_desk.specs.Input.{EndsInput, status_of_unread}
use Rattle.dali_desk.specs.Limits.{most_gated}
use Rattle.dali_desk.specs.declared.input.InputNo.{InputNo}
use Rattle.dali_desk.specs.declared.status.Status.{Status}
use Rattle.dali_desk.specs.declared.status.Status.TheVariants.{Done, Invalid, Usage, ReadFault, PrintFault, DiskFault, Damaged, OtherDay, LongLine, LongFile, JournalFull, OutOfMemory, NoGate, BadFrame}

-- What a run of `gate` does: it reads its whole input, and where that is a gateway input, it takes the commands of the
-- merge over the journal, as `day` takes those of a file. Inboxes are counted from 0, and a turn is the number of its inbox.

-- of some lines those at the positions that an inbox's turns gave are the first commands of that inbox, for each inbox; so of
-- none a command is doubled, left out in the middle or put in another order
abbrev pub SharesAreFirst : List (List ℕ) → List ℕ → List (List ℕ) → Type 0
SharesAreFirst inboxes turns lines = (inbox : ℕ) → IsFront (share inbox (givers inboxes turns) lines) (sent inboxes inbox)

-- Gateway prefix, at a stop: the law of a stop with the merge as the file, and of the lines of its history each inbox's share
-- is its first commands.
pub record KeepsInboxes (inboxes : List (List ℕ)) (turns : List ℕ) (before : Sight) (image text : List ℕ) : Type 0 where
  pub prefix : KeepsPrefix (merge inboxes turns) before image text
  pub shares : SharesAreFirst inboxes turns (lines_of prefix.history)

-- a source with these bytes left, of which no take ever fails
abbrev pub unfailing : List ℕ → Feed
unfailing bytes = record { left = bytes; faults = 0 }

-- A day over the journal with the merge of these inboxes and turns as its file: all that a run of `day` does, and Gateway
-- prefix, whatever the turns.
pub record DayOverMerge (told : Bool) (inboxes : List (List ℕ)) (turns : List ℕ) (before after : Sight) (status : Status) : Type 0 where
  -- the bytes of the merge that weren't taken
  pub left : List ℕ
  pub day : DayOver true told (unfailing (merge inboxes turns)) (unfailing left) before after status
  -- the merge keeps each inbox's order
  pub order : KeepsOrder inboxes turns
  -- so does each history whose lines are the first commands of the merge, as those are that `day` names
  pub shares : (lines : List (List ℕ)) → IsFront lines (commands (merge inboxes turns)) → SharesAreFirst inboxes turns lines
  -- and so at every moment since the start
  pub prefix : IsTrue told → EachSpellsFirst (merge inboxes turns) before → LeavesOnly (KeepsInboxes inboxes turns before) before after

-- the bytes read are no gateway input, which is said with their place, and nothing was done to the site
pub record SaysNoGate (bytes : List ℕ) (before after : Sight) (status : Status) : Type 0 where
  pub place : ℕ
  pub form : IsFormPlace bytes place
  pub said : status ≡ NoGate place
  pub untouched : after ≡ before

-- they are a gateway input, and a day was taken over its merge
pub record TakesMerge (told : Bool) (bytes : List ℕ) (before after : Sight) (status : Status) : Type 0 where
  pub inboxes : List (List ℕ)
  pub turns : List ℕ
  pub gate : Spells bytes inboxes turns
  pub day : DayOverMerge told inboxes turns before after status

-- memory was wanted for the inboxes, and nothing was done to the site
abbrev pub HasNoRoom : Sight → Sight → Status → Type 0
HasNoRoom before after status = (status ≡ OutOfMemory) × (after ≡ before)

-- what came of bytes that were read whole
abbrev pub ComesOf : Bool → List ℕ → Sight → Sight → Status → Type 0
ComesOf told bytes before after status = SaysNoGate bytes before after status ⊎ (TakesMerge told bytes before after status ⊎ HasNoRoom before after status)

-- what came of an input, by how reading it ended; where it wasn't read whole, nothing was done to the site
abbrev pub GateCame : Bool → Result (List ℕ) InputNo → Sight → Sight → Status → Type 0
GateCame told (Ok bytes) before after status = ComesOf told bytes before after status
GateCame told (Err why) before after status = (status ≡ status_of_unread why) × (after ≡ before)

-- the statuses of `gate`
abbrev pub EndsGate : Status → Type 0
EndsGate Done = Unit {0}
EndsGate (Invalid why) = ⊥
EndsGate Usage = ⊥
EndsGate ReadFault = Unit {0}
EndsGate PrintFault = Unit {0}
EndsGate DiskFault = Unit {0}
EndsGate (Damaged place why) = Unit {0}
EndsGate (OtherDay k) = Unit {0}
EndsGate (LongLine k) = Unit {0}
EndsGate LongFile = Unit {0}
EndsGate (JournalFull need left_over) = Unit {0}
EndsGate OutOfMemory = Unit {0}
EndsGate (NoGate place) = Unit {0}
EndsGate (BadFrame place) = ⊥

-- those of an input of which no day is taken: it wasn't read whole, it isn't a gateway input from this place on, or memory
-- was wanted
abbrev pub EndsUnmerged : List ℕ → Status → Type 0
EndsUnmerged input Done = ⊥
EndsUnmerged input (Invalid why) = ⊥
EndsUnmerged input Usage = ⊥
EndsUnmerged input ReadFault = Unit {0}
EndsUnmerged input PrintFault = ⊥
EndsUnmerged input DiskFault = ⊥
EndsUnmerged input (Damaged place why) = ⊥
EndsUnmerged input (OtherDay k) = ⊥
EndsUnmerged input (LongLine k) = ⊥
EndsUnmerged input LongFile = Unit {0}
EndsUnmerged input (JournalFull need left_over) = ⊥
EndsUnmerged input OutOfMemory = Unit {0}
EndsUnmerged input (NoGate place) = IsFormPlace input place
EndsUnmerged input (BadFrame place) = ⊥

-- no day was taken of this input, and nothing was done to the site
pub record Unmerged (input : List ℕ) (before after : Sight) (status : Status) : Type 0 where
  pub ends : EndsUnmerged input status
  pub untouched : after ≡ before

-- What is promised of an input that is the gateway input of these inboxes and turns.
pub record MergePromises (told : Bool) (inboxes : List (List ℕ)) (turns : List ℕ) (old new : Feed) (before after : Sight) (status : Status) : Type 0 where
  -- a day is taken over the merge, or none and the site is as before
  pub came : DayOverMerge told inboxes turns before after status ⊎ Unmerged old.left before after status
  -- either way Gateway prefix holds, and with it the headline, and its premise holds again at the end
  pub prefix : IsTrue told → EachSpellsFirst (merge inboxes turns) before → LeavesOnly (KeepsInboxes inboxes turns before) before after
  pub twice : IsTrue told → EachSpellsFirst (merge inboxes turns) before → EachSpellsFirst (merge inboxes turns) after
  -- where nothing stands in the way of a day over the merge, and the input is within its limit, it is done or memory is wanted
  pub complete : IsTrue told → length old.left ≤ most_gated → EachSpellsFirst (merge inboxes turns) before →
      IsClear (record { left = merge inboxes turns; faults = old.faults }) new before after → (status ≡ Done) ⊎ (status ≡ OutOfMemory)

-- What is promised of the input that a source had left at the start, where it tells.
pub record GatePromises (told : Bool) (old new : Feed) (before after : Sight) (status : Status) : Type 0 where
  -- NoGate says that the whole input was read and is no gateway input, and from where on
  pub no_gate : (place : ℕ) → status ≡ NoGate place → (length old.left ≤ most_gated) × (new.left ≡ []) × IsFormPlace old.left place
  -- what is no gateway input, or too long, is never taken as one
  pub form : ((inboxes : List (List ℕ)) (turns : List ℕ) → Spells old.left inboxes turns → ⊥) → Unmerged old.left before after status
  pub long : most_gated < length old.left → Unmerged old.left before after status
  -- and what is one is taken as the file that its merge is
  pub merged : (inboxes : List (List ℕ)) (turns : List ℕ) → Spells old.left inboxes turns → MergePromises told inboxes turns old new before after status

-- What a run of `gate` does.
pub record GateOver (source_tells site_tells : Bool) (old new : Feed) (before after : Sight) (status : Status) : Type 0 where
  pub statuses : EndsGate status
  -- a fault comes only where its count rose; where the source failed, nothing was done to the site
  pub read_fault : status ≡ ReadFault → Rose old.faults new.faults × (after ≡ before)
  pub print_fault : status ≡ PrintFault → Rose before.print_faults after.print_faults
  pub disk_fault : status ≡ DiskFault → Rose before.disk_faults after.disk_faults
  pub faults : old.faults ≤ new.faults
  pub goes : Goes before after
  -- how reading the whole input ended, how much of it was taken by then, and what came of it
  pub read : Result (List ℕ) InputNo
  pub input : EndsInput source_tells most_gated old new read
  pub came : GateCame site_tells read before after status
  pub promises : IsTrue source_tells → GatePromises site_tells old new before after status
