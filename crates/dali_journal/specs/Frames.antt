use Rattle.std.specs.Prelude.{◌≡◌, ℕ, ◌+◌, ◌-◌, ◌<◌, ◌^◌, List, [], ◌∷◌, ◌++◌, length, take, drop}
use Rattle.std.specs.Int.{w32, to_be_bytes}
use Rattle.dali_journal.specs.Holds.{gated}

-- a payload's frame: its length in four bytes, the payload, and a closed gate
abbrev pub frame_of : List ℕ → List ℕ
frame_of payload = to_be_bytes w32 (length payload) ++ (payload ++ 0 ∷ [])

-- the payload of a frame: what stands between its length and its gate
abbrev pub payload_of : List ℕ → List ℕ
payload_of frame = take (length frame - 5) (drop 4 frame)

-- the records of these payloads, each behind a gate that is 1
abbrev pub open_records : List (List ℕ) → List ℕ
open_records [] = []
open_records (payload ∷ list) = gated 1 payload ++ open_records list

-- what a write puts behind a gate, so that these payloads stand there once the gate is 1
abbrev pub AreFrames : List (List ℕ) → List ℕ → Type 0
AreFrames list frames = 1 ∷ frames ≡ open_records list ++ 0 ∷ []

-- the length of each payload fits in its four bytes
abbrev pub AreShort : List (List ℕ) → Type 0
AreShort [] = Unit {0}
AreShort (payload ∷ list) = (length payload < 2 ^ 32) × AreShort list

-- the bytes of the frames of these payloads
abbrev pub frames_length : List (List ℕ) → ℕ
frames_length [] = 0
frames_length (payload ∷ list) = length payload + 5 + frames_length list
