use Rattle.std.specs.Prelude.{ℕ, zero, suc, ◌+◌, ◌*◌, ◌/◌, ◌%◌}

-- how many states there are: a state is a number below this one
abbrev pub state_count : ℕ
state_count = 2147483648

-- the state after one draw
abbrev pub next_state : ℕ → ℕ
next_state s = (1103515245 * s + 12345) % state_count

-- the state after k draws from the state s
unfoldable pub state_after : ℕ → ℕ → ℕ
state_after zero s = s
state_after (suc k) s = next_state (state_after k s)

-- what a draw of q gives that left this state: its bits from 16 on, as a number below q
abbrev pub given : ℕ → ℕ → ℕ
given state q = state / 65536 % q

-- what the k-th draw from the state s gives, counted from 1, where it is of q
abbrev pub drawn : ℕ → ℕ → ℕ → ℕ
drawn k s q = given (state_after k s) q
