use Rattle.std.specs.Prelude.{ℕ, Bool, ◌&&◌, nat_le, List, length}
use Rattle.std.specs.List.{list_all}
use Rattle.dali_line.specs.Limits.{most_command}

-- a byte from the comma on: no control, no blank and no '#'
abbrev pub is_plain_byte : ℕ → Bool
is_plain_byte b = nat_le 44 b

-- 1 to 200 such bytes
abbrev pub is_plain : List ℕ → Bool
is_plain line = nat_le 1 (length line) && nat_le (length line) most_command && list_all is_plain_byte line
