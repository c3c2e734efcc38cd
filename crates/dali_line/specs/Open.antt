use Rattle.std.specs.Prelude.{◌≡◌, ℕ, ◌==◌, ◌≤◌, ◌<◌, Bool, false, List, [], ◌∷◌, ◌++◌, length, vec_capacity}
use Rattle.std.specs.List.{All}
use Rattle.std.specs.Str.Lines.{strip_carriage_return}
use Rattle.dali_line.specs.Limits.{most_command}
use Rattle.dali_line.specs.Commands.{commands, ended_commands}
use Rattle.dali_line.specs.Lines.{Gets, Reach}
use Rattle.dali_line.specs.declared.open_line.OpenLine.TheInside.{Inside}

-- no LF is among these bytes
abbrev pub InOneLine : List ℕ → Type 0
InOneLine raw = All (λ b. (b == 10) ≡ false) raw

-- the bytes begin with '#'
abbrev pub is_comment : List ℕ → Bool
is_comment [] = false
is_comment (b ∷ bytes) = b == 35

-- the bytes that were taken of a line whose LF wasn't met yet; of a comment nothing is kept
pub record Open : Type 0 where
  pub skips : Bool
  pub kept : List ℕ

abbrev pub nothing_open : Open
nothing_open = record { skips = false; kept = [] }

abbrev pub open_of : Inside → Open
open_of a = record { skips = a.skips; kept = a.kept.items }

-- what is kept could be a command, and there is room for one and a CR
pub record IsOpen (a : Inside) : Type 0 where
  pub short : length (strip_carriage_return a.kept.items) ≤ most_command
  pub one : InOneLine a.kept.items
  pub plain : is_comment a.kept.items ≡ false
  pub room : most_command < vec_capacity a.kept

-- what is open of a line that began with these bytes, and may still be a command or a comment
pub record StandsFor (raw : List ℕ) (line : Open) : Type 0 where
  pub one : InOneLine raw
  pub skips : line.skips ≡ is_comment raw
  pub kept : line.skips ≡ false → line.kept ≡ raw
  pub short : line.skips ≡ false → length (strip_carriage_return raw) ≤ most_command

-- bytes that are no comment, and whose line is longer than a command whatever follows
pub record IsTooLong (raw : List ℕ) : Type 0 where
  pub one : InOneLine raw
  pub plain : is_comment raw ≡ false
  pub long : most_command < length (strip_carriage_return raw)

-- the bytes used give no command, and go on as the raw ones of the line that is open
pub record SameCut (used raw : List ℕ) : Type 0 where
  pub same : (rest : List ℕ) → commands (used ++ rest) ≡ commands (raw ++ rest)
  pub ended : (rest : List ℕ) → ended_commands (used ++ rest) ≡ ended_commands (raw ++ rest)

-- Midway in a call: a line is open, the block has bytes behind it, and no command was met.
pub record Midway (told : Bool) (old : Reach) (line : Open) (now : Reach) : Type 0 where
  pub got : List ℕ
  pub gets : Gets told old got now
  pub used : List ℕ
  pub parted : old.pending ++ got ≡ used ++ now.pending
  pub raw : List ℕ
  pub stands : StandsFor raw line
  pub cut : SameCut used raw
