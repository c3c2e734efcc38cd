use Rattle.std.specs.Prelude.{ℕ, Bool, not, ◌==◌, ◌&&◌, nat_le, List, length}
use Rattle.std.specs.List.{list_all}
use Rattle.dali_line.specs.Commands.{is_command}
use Rattle.dali_line.specs.Limits.{most_command}

-- the most bytes of a command
abbrev pub MOST_OF_COMMAND : ℕ
MOST_OF_COMMAND = most_command

-- what a history keeps as a line: a command of at most so many bytes in one line
abbrev pub is_line : List ℕ → Bool
is_line bytes = is_command bytes && nat_le (length bytes) most_command && list_all (λ b. not (b == 10)) bytes
