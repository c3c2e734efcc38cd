use Rattle.std.specs.Prelude.{◌≡◌, ℕ, zero, suc, ◌≤◌, ◌<◌, List, [], ◌∷◌, ◌++◌, length, map, codes, decimal, All}
use Rattle.dali_gateway.specs.Limits.{most_inboxes, most_inbox, most_turns}
use Rattle.dali_gateway.specs.Form.{letter}

-- What may stand behind a front of a gateway input, for private functions: texts, each told from its first piece on. That
-- these are the gateway inputs of specs/Form.antt is told by the clauses of `read_gate`.

-- a word, and such a text behind it
pub record After (word : List ℕ) (L : List ℕ → Type 0) (text : List ℕ) : Type 0 where
  pub rest : List ℕ
  pub parted : text ≡ word ++ rest
  pub goes : L rest

-- a number from low to high and an LF, and such a text behind them
pub record Numbered (low high : ℕ) (L : ℕ → List ℕ → Type 0) (text : List ℕ) : Type 0 where
  pub number : ℕ
  pub least : low ≤ number
  pub most : number ≤ high
  pub rest : List ℕ
  pub parted : text ≡ decimal number ++ 10 ∷ rest
  pub goes : L number rest

-- so many bytes, and such a text behind them
pub record Sized (size : ℕ) (L : List ℕ → Type 0) (text : List ℕ) : Type 0 where
  pub bytes : List ℕ
  pub small : All (λ b. b < 256) bytes
  pub long : length bytes ≡ size
  pub rest : List ℕ
  pub parted : text ≡ bytes ++ rest
  pub goes : L rest

-- the letters of so many turns of the first inboxes, and such a text behind them
pub record Lettered (inboxes count : ℕ) (L : List ℕ → Type 0) (text : List ℕ) : Type 0 where
  pub turns : List ℕ
  pub known : All (λ turn. turn < inboxes) turns
  pub long : length turns ≡ count
  pub rest : List ℕ
  pub parted : text ≡ map letter turns ++ rest
  pub goes : L rest

abbrev pub AtEnd : List ℕ → Type 0
AtEnd text = text ≡ []

-- an LF, and such a text behind it
abbrev pub Ended : (List ℕ → Type 0) → List ℕ → Type 0
Ended L = After (10 ∷ []) L

-- the turns of so many inboxes
abbrev pub Turning : ℕ → List ℕ → Type 0
Turning inboxes = After (codes "TURNS,") (Numbered 0 most_turns (λ count. Lettered inboxes count (Ended AtEnd)))

-- so many further inboxes, and the turns of all of them
abbrev pub Tail : ℕ → ℕ → List ℕ → Type 0
Tail inboxes zero = Turning inboxes
Tail inboxes (suc further) = After (codes "INBOX,") (Numbered 0 most_inbox (λ size. Sized size (Ended (Tail inboxes further))))

abbrev pub Whole : List ℕ → Type 0
Whole = After (codes "GATE,") (Numbered 1 most_inboxes (λ inboxes. Tail inboxes inboxes))
