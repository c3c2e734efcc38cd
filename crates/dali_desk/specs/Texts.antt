use Rattle.std.specs.Prelude.{◌≡◌, ℕ, ◌≤◌, Bool, IsTrue, List, ◌++◌}
use Rattle.dali_outside.specs.Outside.{Sight, Goes, SameDisk}
use Rattle.dali_outside.specs.Stops.{IsImage}
use Rattle.dali_register.specs.Front.{IsFront}

-- what a stop may leave while this text is printed and the disk isn't written: an image that a stop at the start might
-- have left, and a front of the text behind what was printed before
pub record LeavesText (old : Sight) (text image left : List ℕ) : Type 0 where
  pub disk : IsImage old.bytes old.loose image
  pub shown : List ℕ
  pub printed : left ≡ old.printed ++ shown
  pub front : IsFront shown text

-- the disk and the counts since some moment at which nothing was written
pub record Quiet (told : Bool) (old new : Sight) : Type 0 where
  pub goes : Goes old new
  pub disk : IsTrue told → SameDisk old new
  pub syncs : new.syncs ≤ old.syncs
