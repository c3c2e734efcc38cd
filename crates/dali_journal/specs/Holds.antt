use Rattle.std.specs.Prelude.{◌≡◌, ◌≢◌, ℕ, zero, suc, ◌+◌, ◌<◌, ◌^◌, List, [], ◌∷◌, ◌++◌, length, replicate, codes}
use Rattle.std.specs.Int.{w32, to_be_bytes}

-- the text at the head of a journal
abbrev pub head_text : List ℕ
head_text = codes "DALI-JOURNAL"

-- the first bytes of an empty journal of edition 1: its header, and a closed gate
abbrev pub empty_start : List ℕ
empty_start = head_text ++ 0 ∷ 0 ∷ 0 ∷ 1 ∷ 0 ∷ []

-- j bytes other than 0, and then bytes 0
abbrev pub AreMarks : ℕ → List ℕ → Type 0
AreMarks zero marks = marks ≡ replicate (length marks) 0
AreMarks (suc j) [] = ⊥
AreMarks (suc j) (b ∷ marks) = (b ≢ 0) × AreMarks j marks

-- the header of a journal of this edition: the text, three edition bytes and a byte 1
pub record IsHeader (edition : ℕ) (header : List ℕ) : Type 0 where
  pub j : ℕ
  pub edition_is : edition ≡ j + 1
  pub marks : List ℕ
  pub three : length marks ≡ 3
  pub set : AreMarks j marks
  pub whole : header ≡ head_text ++ (marks ++ 1 ∷ [])

-- a record behind its gate: the gate, the payload's length in four bytes, and the payload
abbrev pub gated : ℕ → List ℕ → List ℕ
gated gate payload = gate ∷ (to_be_bytes w32 (length payload) ++ payload)

-- the records of these payloads, one right after the other, each behind an open gate
abbrev pub AreRecords : List (List ℕ) → List ℕ → Type 0
AreRecords [] body = body ≡ []
AreRecords (payload ∷ list) body =
    (gate : ℕ) × (gate ≢ 0) × (length payload < 2 ^ 32) × (rest : List ℕ) × (body ≡ gated gate payload ++ rest) × AreRecords list rest

-- an image of a journal of this edition has the records of these payloads from byte 16 on, up to the tail
pub record StandsTo (tail edition : ℕ) (list : List (List ℕ)) (image : List ℕ) : Type 0 where
  pub header : List ℕ
  pub is_header : IsHeader edition header
  pub body : List ℕ
  pub records : AreRecords list body
  pub rest : List ℕ
  pub place : tail ≡ 16 + length body
  pub whole : image ≡ header ++ (body ++ rest)

-- an image of a journal of this edition holds these payloads, with the closed gate at the tail; what follows is free
pub record HoldsAt (tail edition : ℕ) (list : List (List ℕ)) (image : List ℕ) : Type 0 where
  pub header : List ℕ
  pub is_header : IsHeader edition header
  pub body : List ℕ
  pub records : AreRecords list body
  pub free : List ℕ
  pub place : tail ≡ 16 + length body
  pub whole : image ≡ header ++ (body ++ 0 ∷ free)

-- an image of a journal of this edition holds these payloads
pub record Holds (edition : ℕ) (list : List (List ℕ)) (image : List ℕ) : Type 0 where
  pub tail : ℕ
  pub at : HoldsAt tail edition list image
