use Rattle.std.specs.Prelude.{◌≡◌, ℕ, ◌≤◌, Bool, IsTrue, List, ◌++◌, take, Result, Ok, Err}
use Rattle.dali_outside.specs.Outside.{Sight, Rose, Goes, SameDisk}
use Rattle.dali_outside.specs.Stops.{LeavesOnly}
use Rattle.dali_upkeep.specs.Printing.{LeavesFront}
use Rattle.dali_ship.specs.declared.printing.PrintNo.{PrintNo}
use Rattle.dali_ship.specs.declared.printing.PrintNo.TheVariants.{PrintFault, OutOfMemory}

-- The printing of a text in pieces on a disk that stays as it is, for private functions.

-- How far a text was printed since some moment: of its bytes these are gone, the piece is held back, and the rest comes behind
-- it. At every moment since then a front of the text was printed.
pub record SoFar (tells : Bool) (text piece rest : List ℕ) (old now : Sight) : Type 0 where
  pub gone : List ℕ
  pub parts : text ≡ gone ++ (piece ++ rest)
  pub printed : IsTrue tells → now.printed ≡ old.printed ++ gone
  pub disk : IsTrue tells → SameDisk old now
  pub stops : IsTrue tells → LeavesOnly (LeavesFront text old) old now
  pub goes : Goes old now
  pub syncs : now.syncs ≤ old.syncs

-- a front of the text was printed, and no more is
pub record EndsWithin (tells : Bool) (text : List ℕ) (old now : Sight) : Type 0 where
  pub front : IsTrue tells → (n : ℕ) × (now.printed ≡ old.printed ++ take n text)
  pub disk : IsTrue tells → SameDisk old now
  pub stops : IsTrue tells → LeavesOnly (LeavesFront text old) old now
  pub goes : Goes old now
  pub syncs : now.syncs ≤ old.syncs

-- a print fault comes only where its count rose
abbrev pub Faults : PrintNo → Sight → Sight → Type 0
Faults PrintFault old new = Rose old.print_faults new.print_faults
Faults OutOfMemory old new = Unit {0}

-- the text was printed up to this rest of it, with this piece held back; or no more of it is
abbrev pub PrintsOn : Result Unit PrintNo → Bool → List ℕ → List ℕ → List ℕ → Sight → Sight → Type 0
PrintsOn (Ok u) tells text piece rest old now = SoFar tells text piece rest old now
PrintsOn (Err e) tells text piece rest old now = EndsWithin tells text old now × Faults e old now
