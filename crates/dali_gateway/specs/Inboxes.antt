use Rattle.std.specs.Prelude.{◌≡◌, ℕ, ◌≤◌, ◌<◌, if◌then◌else◌, List, ◌∷◌, length, take, drop}
use Rattle.dali_line.specs.Commands.{is_command, commands}

-- The first line of some bytes, for private functions: its length, without the LF that ended it and one CR before that, and
-- how many bytes it takes. It is their first command, or the commands are those behind it.
pub record IsFirstLine (bytes : List ℕ) (len taken : ℕ) : Type 0 where
  pub order : len ≤ taken
  pub some : 0 < taken
  pub within : taken ≤ length bytes
  pub first : commands bytes ≡
      (if is_command (take len bytes) then take len bytes ∷ commands (drop taken bytes) else commands (drop taken bytes))
