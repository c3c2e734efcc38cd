use Rattle.std.specs.Prelude.{◌≡◌, ◌⊎◌, ℕ, ◌+◌, ◌<◌, Bool, true, false, List, ◌++◌, All, length, take, drop, replicate}
use Rattle.dali_outside.specs.Outside.{Sight, overlay}
use Rattle.dali_outside.specs.Stops.{MightHaveLeft, MightHaveLeftAt, LeavesOnly}
use Rattle.dali_journal.specs.Holds.{Holds, HoldsAt}

-- nothing is loose
abbrev pub IsFirm : Sight → Type 0
IsFirm s = s.loose ≡ replicate (length s.loose) false

-- the device holds these payloads, with the closed gate at the tail, and nothing is loose
pub record AtRest (tail edition : ℕ) (list : List (List ℕ)) (s : Sight) : Type 0 where
  pub holds : HoldsAt tail edition list s.bytes
  pub firm : IsFirm s

-- every image that a stop now may leave holds these payloads
abbrev pub EachHolds : ℕ → List (List ℕ) → Sight → Type 0
EachHolds edition list s = (image text : List ℕ) → MightHaveLeft s (length s.past) image text → Holds edition list image

-- what a stop within a write of a piece of n bytes leaves, where nothing else is loose: any bytes in its range
pub record Torn (old : Sight) (at n : ℕ) (image text : List ℕ) : Type 0 where
  pub stands : List ℕ
  pub as_long : length stands ≡ n
  pub small : All (λ b. b < 256) stands
  pub whole : image ≡ overlay old.bytes at stands
  pub silent : text ≡ old.printed

-- an image holds the list, or the list with more behind it, and nothing was printed
pub record EitherList (edition : ℕ) (list more : List (List ℕ)) (printed image text : List ℕ) : Type 0 where
  pub one : Holds edition list image ⊎ Holds edition (list ++ more) image
  pub silent : text ≡ printed

-- What an append of more payloads does, which puts these frames behind the gate. Each image since its start holds the
-- list or the longer one; up to the first sync that works, and so before the gate is written, it holds the list; and
-- after Ok the device and every image hold the longer one, and nothing is loose.
pub record Appends (worked : Bool) (tail edition : ℕ) (list more : List (List ℕ)) (frames : List ℕ) (old new : Sight) : Type 0 where
  pub each : LeavesOnly (EitherList edition list more old.printed) old new
  pub first : (image text : List ℕ) → MightHaveLeftAt new (length old.past) image text → Holds edition list image
  pub done : worked ≡ true → AtRest (tail + length frames) edition (list ++ more) new
  pub after : worked ≡ true → EachHolds edition (list ++ more) new

-- an image holds the list in a journal of the edition or of the next, and nothing was printed
pub record EitherEdition (tail edition : ℕ) (list : List (List ℕ)) (printed image text : List ℕ) : Type 0 where
  pub one : HoldsAt tail edition list image ⊎ HoldsAt tail (edition + 1) list image
  pub silent : text ≡ printed

-- outside of n bytes from a place on, a device's bytes are as before; within them any may stand
pub record StaysOutside (at n : ℕ) (old new : Sight) : Type 0 where
  pub before : take at new.bytes ≡ take at old.bytes
  pub behind : drop (at + n) new.bytes ≡ drop (at + n) old.bytes
