use Rattle.std.specs.Prelude.{◌≡◌, ℕ, ◌+◌, ◌-◌, ◌^◌, min, Bool, true, false, List, [], ◌∷◌, ◌++◌, length, take, Option, None, Some, Result, Ok, Err, ⊤}

-- what was asked of the machine, and how it answered: a read of input that gave these bytes, or failed; a read of the
-- file from a place on, with what stands in the piece afterwards; a write to the file from a place on; a sync; a print.
-- The last four say whether they worked
pub data Call : Type 0 where
  gave : List ℕ → Call
  broke : Call
  read_at : ℕ → List ℕ → Bool → Call
  write_at : ℕ → List ℕ → Bool → Call
  sync : Bool → Call
  print : List ℕ → Bool → Call

-- a read of input that answered so, with these bytes in its piece afterwards
abbrev pub read_call : {E : Type 0} → Result ℕ E → List ℕ → Call
read_call (Ok n) into = gave (take n into)
read_call (Err _) into = broke

-- where a port tells its calls, this one came behind them, and no other
abbrev pub Makes : Option (List Call) → Option (List Call) → Call → Type 0
Makes None new call = ⊤
Makes (Some calls) None call = ⊥
Makes (Some calls) (Some more) call = more ≡ calls ++ call ∷ []

-- of a port that is there: this one call was made of it
abbrev pub Asks : {D : Type 0} → (D → Option (List Call)) → Option D → Option D → Call → Type 0
Asks calls None new call = ⊤
Asks calls (Some port) None call = ⊥
Asks calls (Some port) (Some after) call = Makes (calls port) (calls after) call

-- a count of faults after a call: one more where it failed, which stops at u64's last value
abbrev pub count_after : Bool → ℕ → ℕ
count_after true n = n
count_after false n = min (n + 1) (2 ^ 64 - 1)
