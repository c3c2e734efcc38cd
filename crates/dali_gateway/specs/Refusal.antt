use Rattle.std.specs.Prelude.{◌≡◌, ℕ, ◌≤◌, ◌<◌, ◌⊎◌, List, [], ◌∷◌, ◌++◌, length, decimal}
use Rattle.dali_gateway.specs.Form.{letter}
use Rattle.dali_gateway.specs.declared.refusal.Refused.{Refused}
use Rattle.dali_gateway.specs.declared.refusal.Refused.TheVariants.{Form, Memory}

-- Why a reader of the first piece of some bytes gave none. `left` is the number of bytes behind the longest front of them
-- that may stand there.

-- the bytes are this front of theirs and so many others
pub record Parts (bytes front rest : List ℕ) (left : ℕ) : Type 0 where
  pub parted : bytes ≡ front ++ rest
  pub long : length rest ≡ left

-- they go along with the word up to some byte of it
pub record LeavesWord (word bytes : List ℕ) (left : ℕ) : Type 0 where
  pub front : List ℕ
  pub rest : List ℕ
  pub parts : Parts bytes front rest left
  pub next : ℕ
  pub more : List ℕ
  pub spelled : word ≡ front ++ next ∷ more
  pub other : (behind : List ℕ) → rest ≡ next ∷ behind → ⊥

-- the bytes spell a number from low to high
pub record SpellsWithin (low high : ℕ) (bytes : List ℕ) : Type 0 where
  pub number : ℕ
  pub least : low ≤ number
  pub most : number ≤ high
  pub spelled : bytes ≡ decimal number

-- they are a number, or nothing, and what follows is neither a further digit of a number in the range nor the LF behind one
pub record LeavesNumber (low high : ℕ) (bytes : List ℕ) (left : ℕ) : Type 0 where
  pub front : List ℕ
  pub rest : List ℕ
  pub parts : Parts bytes front rest left
  pub begun : (front ≡ []) ⊎ SpellsWithin low high front
  pub digit : (b : ℕ) (behind : List ℕ) → rest ≡ b ∷ behind → SpellsWithin low high (front ++ b ∷ []) → ⊥
  pub ended : (behind : List ℕ) → rest ≡ 10 ∷ behind → front ≡ []

-- They are no such text. Some front may stand there with more behind it, and not with the next byte behind it
pub record Leaves (L : List ℕ → Type 0) (bytes : List ℕ) (left : ℕ) : Type 0 where
  pub front : List ℕ
  pub rest : List ℕ
  pub parts : Parts bytes front rest left
  pub more : List ℕ
  pub begins : L (front ++ more)
  pub none : L bytes → ⊥
  pub breaks : (b : ℕ) (behind after : List ℕ) → rest ≡ b ∷ behind → L (front ++ b ∷ after) → ⊥

-- they begin with no letter of a turn of one of so many inboxes
abbrev pub LacksLetter : ℕ → List ℕ → Type 0
LacksLetter inboxes bytes = (turn : ℕ) (behind : List ℕ) → turn < inboxes → bytes ≡ letter turn ∷ behind → ⊥

abbrev pub RefusesWord : List ℕ → List ℕ → Refused → Type 0
RefusesWord word bytes (Form left) = LeavesWord word bytes left
RefusesWord word bytes Memory = Unit {0}

abbrev pub RefusesNumber : ℕ → ℕ → List ℕ → Refused → Type 0
RefusesNumber low high bytes (Form left) = LeavesNumber low high bytes left
RefusesNumber low high bytes Memory = Unit {0}

abbrev pub Refuses : (List ℕ → Type 0) → List ℕ → Refused → Type 0
Refuses L bytes (Form left) = Leaves L bytes left
Refuses L bytes Memory = Unit {0}
