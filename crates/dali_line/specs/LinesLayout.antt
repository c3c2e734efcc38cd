use Rattle.std.specs.Prelude.{◌+◌, ◌≤◌, length}
use Rattle.dali_line.specs.Limits.{most_file}
use Rattle.dali_line.specs.Lines.{Reader}
use Rattle.dali_line.specs.declared.lines.Lines.TheInside.{Inside}

abbrev pub reader_of : Inside → Reader
reader_of a = record { pending = a.block; taken = a.taken; given = a.given; over = a.over }

-- each command that was given took a byte
pub record IsCounted (a : Inside) : Type 0 where
  pub counted : a.given + length a.block ≤ a.taken
  pub within : a.taken ≤ most_file
