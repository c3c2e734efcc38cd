use Rattle.std.specs.Prelude.{◌≡◌, ℕ, ◌≤◌, Bool, IsTrue, List, ◌++◌, take, Result, Ok, Err}
use Rattle.dali_outside.specs.Outside.{Sight, Rose, Goes, SameDisk}
use Rattle.dali_outside.specs.Stops.{IsImage, LeavesOnly}
use Rattle.dali_put.specs.declared.refusal.PutNo.{PutNo}
use Rattle.dali_put.specs.declared.refusal.PutNo.TheVariants.{PrintFault, OutOfMemory}

-- some first bytes of this text were printed, and no others
pub record PrintsSome (text before after : List ℕ) : Type 0 where
  pub count : ℕ
  pub printed : after ≡ before ++ take count text

-- what a stop may leave while this text is printed: a disk as a stop at the start might have left it, and some first bytes
-- of the text behind what was printed before
pub record LeavesSome (old : Sight) (text image left : List ℕ) : Type 0 where
  pub disk : IsImage old.bytes old.loose image
  pub printed : PrintsSome text old.printed left

-- what was printed at the end: all of the text, and after a print fault some first bytes of it; at want of memory nothing
abbrev pub PrintsAt : Result Unit PutNo → List ℕ → List ℕ → List ℕ → Type 0
PrintsAt (Ok u) text before after = after ≡ before ++ text
PrintsAt (Err PrintFault) text before after = PrintsSome text before after
PrintsAt (Err OutOfMemory) text before after = after ≡ before

-- what a run does that prints this text in one put, and touches its site by nothing else
pub record PutRun (told : Bool) (text : List ℕ) (old new : Sight) (result : Result Unit PutNo) : Type 0 where
  pub text_at : IsTrue told → PrintsAt result text old.printed new.printed
  -- at every moment since the start a stop leaves a disk that it might have left at the start, and first bytes of the text
  pub stops : IsTrue told → LeavesOnly (LeavesSome old text) old new
  -- the disk is as before, and nothing was synced
  pub disk : IsTrue told → SameDisk old new
  pub syncs : new.syncs ≤ old.syncs
  pub goes : Goes old new
  -- a fault comes only where its count rose
  pub print_fault : result ≡ Err PrintFault → Rose old.print_faults new.print_faults
  -- at want of memory the site wasn't touched
  pub untouched : result ≡ Err OutOfMemory → new ≡ old
