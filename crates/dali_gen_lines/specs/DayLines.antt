use Rattle.std.specs.Prelude.{◌≡◌, ℕ, ◌≤◌, IsTrue, List, length, drop}
use Rattle.std.specs.List.{list_all}
use Rattle.dali_line.specs.Commands.{commands}
use Rattle.dali_gen.specs.Day.{text_of}
use Rattle.dali_gen_lines.specs.Plain.{is_plain}
use Rattle.dali_gen_lines.specs.declared.day_lines.DayLines.TheInside.{Inside}

-- the lines still to come
abbrev pub lines_left : Inside → List (List ℕ)
lines_left a = commands (drop a.at a.day)

-- a line begins here, or the day is over, and what is left are plain lines, each ended by LF
pub record IsAtLine (a : Inside) : Type 0 where
  pub within : a.at ≤ length a.day
  pub rest : drop a.at a.day ≡ text_of (lines_left a)
  pub plain : IsTrue (list_all is_plain (lines_left a))
