use Rattle.std.specs.Prelude.{◌≡◌, ◌≢◌, ◌⊎◌, ℕ, ◌+◌, ◌<◌, ◌^◌, Bool, List, ◌++◌, length, drop, slice_index, slice_range}
use Rattle.std.specs.Int.{w32, from_be_bytes, to_be_bytes}
use Rattle.dali_journal.specs.Holds.{gated}

-- an open journal: its edition, the place of its tail, the bytes left from there on, and whether the tail is known to be
-- the closed gate
pub record Reached : Type 0 where
  pub edition : ℕ
  pub tail : ℕ
  pub left : ℕ
  pub ended : Bool

-- the gate at this place is open, and the length behind it doesn't fit: Damage by length
abbrev pub IsTooLong : ℕ → ℕ → List ℕ → Type 0
IsTooLong size tail bytes =
    (slice_index bytes tail ≢ 0)
    × ((size < tail + 5) ⊎ (size < tail + from_be_bytes w32 (slice_range bytes (tail + 1) (tail + 5)) + 6))

-- the record of this payload stands behind an open gate at the old tail, and the new tail is the place behind it
pub record Finds (payload bytes : List ℕ) (old new : ℕ) : Type 0 where
  pub gate : ℕ
  pub is_open : gate ≢ 0
  pub short : length payload < 2 ^ 32
  pub stands : drop old bytes ≡ gated gate payload ++ drop new bytes
  pub moved : new ≡ old + (length payload + 5)

-- an open gate stands at this place, and this length behind it
pub record HeadsPayload (len tail : ℕ) (bytes : List ℕ) : Type 0 where
  pub is_open : slice_index bytes tail ≢ 0
  pub length_is : slice_range bytes (tail + 1) (tail + 5) ≡ to_be_bytes w32 len
  pub value : from_be_bytes w32 (slice_range bytes (tail + 1) (tail + 5)) ≡ len
