use Rattle.std.specs.Prelude.{◌≡◌, ◌⊎◌, ℕ, ◌<◌, ◌≤◌, ◌^◌, List, ◌++◌, length}
use Rattle.std.specs.Int.{w32, w64, to_be_bytes}
use Rattle.dali_replica.specs.Limits.{most_record}

-- a frame's head: the number of its command in eight bytes, and the length of its record in four
unfoldable pub head_text : ℕ → ℕ → List ℕ
head_text number size = to_be_bytes w64 number ++ to_be_bytes w32 size

-- a frame: its head, and the record
abbrev pub frame_text : ℕ → List ℕ → List ℕ
frame_text number bytes = head_text number (length bytes) ++ bytes

-- bytes that begin with a whole head: what it says, and the bytes behind it
pub record HasHead (number size : ℕ) (rest bytes : List ℕ) : Type 0 where
  pub number_fits : number < 2 ^ 64
  pub size_fits : size < 2 ^ 32
  pub whole : bytes ≡ head_text number size ++ rest

-- a whole head of a length within the limit, with fewer bytes behind it
pub record IsLonger (bytes : List ℕ) : Type 0 where
  pub number : ℕ
  pub size : ℕ
  pub rest : List ℕ
  pub head : HasHead number size rest bytes
  pub allowed : size ≤ most_record
  pub longer : length rest < size

-- no whole frame begins with these bytes, and none that is too long: they have no whole head, or end within the record
abbrev pub EndsWithin : List ℕ → Type 0
EndsWithin bytes = (length bytes < 12) ⊎ IsLonger bytes

-- a frame begins with these bytes whose length is more than the limit
pub record IsOverlong (bytes : List ℕ) : Type 0 where
  pub number : ℕ
  pub size : ℕ
  pub rest : List ℕ
  pub head : HasHead number size rest bytes
  pub over : most_record < size

-- a frame begins with these bytes whose length is within the limit, and they have bytes of its record
pub record HasBegun (bytes : List ℕ) : Type 0 where
  pub number : ℕ
  pub size : ℕ
  pub rest : List ℕ
  pub head : HasHead number size rest bytes
  pub allowed : size ≤ most_record
  pub some : 0 < length rest
