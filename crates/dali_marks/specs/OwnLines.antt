use Rattle.std.specs.Prelude.{◌≡◌, ℕ, ◌≤◌, pos, length}
use Rattle.dali_problem.specs.Clearing.{Clearing, effect}

-- no item changes anything past the last line of its problem. Nothing is said of how great any number is.
pub record ChangesOwnLines (p : Clearing) : Type 0 where
  pub past : (j l : ℕ) → length p.lines ≤ l → effect p j l ≡ pos 0
