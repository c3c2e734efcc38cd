use Rattle.std.specs.Prelude.{◌≡◌, ℕ, ◌+◌, ◌≤◌, ◌<◌, List, [], ◌∷◌, ◌++◌, length, map, take, codes, decimal, All}
use Rattle.std.specs.List.{flat_map}
use Rattle.dali_gateway.specs.Limits.{most_inboxes, most_inbox, most_turns}

-- A gateway input: the number of inboxes, each inbox with its size, the number of turns, and a letter for each turn.

-- the bytes of an inbox, behind their number
abbrev pub inbox_text : List ℕ → List ℕ
inbox_text inbox = codes "INBOX," ++ (decimal (length inbox) ++ 10 ∷ (inbox ++ 10 ∷ []))

-- a turn of the first inbox is an A, of the second a B
abbrev pub letter : ℕ → ℕ
letter turn = 65 + turn

abbrev pub turns_text : List ℕ → List ℕ
turns_text turns = codes "TURNS," ++ (decimal (length turns) ++ 10 ∷ (map letter turns ++ 10 ∷ []))

abbrev pub gate_text : List (List ℕ) → List ℕ → List ℕ
gate_text inboxes turns =
    codes "GATE," ++ (decimal (length inboxes) ++ 10 ∷ (flat_map inbox_text inboxes ++ turns_text turns))

-- bytes, at most as many as an inbox may have
pub record IsInbox (inbox : List ℕ) : Type 0 where
  pub small : All (λ b. b < 256) inbox
  pub size : length inbox ≤ most_inbox

-- inboxes and turns that have a gateway input
pub record IsGate (inboxes : List (List ℕ)) (turns : List ℕ) : Type 0 where
  pub some : 1 ≤ length inboxes
  pub few : length inboxes ≤ most_inboxes
  pub each : All IsInbox inboxes
  pub count : length turns ≤ most_turns
  pub known : All (λ turn. turn < length inboxes) turns

-- the bytes are the gateway input of these inboxes and turns
pub record Spells (bytes : List ℕ) (inboxes : List (List ℕ)) (turns : List ℕ) : Type 0 where
  pub gate : IsGate inboxes turns
  pub text : bytes ≡ gate_text inboxes turns

-- some gateway input begins with these bytes
pub record BeginsGate (front : List ℕ) : Type 0 where
  pub inboxes : List (List ℕ)
  pub turns : List ℕ
  pub gate : IsGate inboxes turns
  pub more : List ℕ
  pub text : gate_text inboxes turns ≡ front ++ more

-- the bytes are no gateway input, and their longest front with which some gateway input begins has this length
pub record IsFormPlace (bytes : List ℕ) (place : ℕ) : Type 0 where
  pub none : (inboxes : List (List ℕ)) (turns : List ℕ) → Spells bytes inboxes turns → ⊥
  pub within : place ≤ length bytes
  pub begins : BeginsGate (take place bytes)
  pub longest : (n : ℕ) → place < n → n ≤ length bytes → BeginsGate (take n bytes) → ⊥
