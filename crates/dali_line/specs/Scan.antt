use Rattle.std.specs.Prelude.{◌≡◌, ℕ, ◌≤◌, Bool, true, false, IsTrue, List, [], ◌∷◌, length}
use Rattle.std.specs.Str.Lines.{strip_carriage_return}
use Rattle.dali_line.specs.Limits.{most_command}
use Rattle.dali_line.specs.Commands.{is_command, commands}
use Rattle.dali_line.specs.Open.{Open, StandsFor, Midway, nothing_open}
use Rattle.dali_line.specs.declared.scan.Turn.{Turn}
use Rattle.dali_line.specs.declared.scan.Turn.TheVariants.{Part, Newline, End}
use Rattle.dali_line.specs.Lines.{Reach, MeetsLine, MeetsLast, MeetsEnd, FirstIsLong}
use Rattle.dali_line.specs.declared.scan.Found.{Found}
use Rattle.dali_line.specs.declared.scan.Found.TheVariants.{Ended, Last, Nothing}
use Rattle.dali_line.specs.declared.line_end.LineEnd.{LineEnd}
use Rattle.dali_line.specs.declared.line_end.LineEnd.TheVariants.{ReadFault, LongLine, LongFile, OutOfMemory}

-- what a scan found
abbrev pub Finds : Bool → Reach → Reach → Found → Type 0
Finds told old new (Ended line) = MeetsLine told line old new
Finds told old new (Last line) = MeetsLast told line old new
Finds told old new Nothing = MeetsEnd told old new

-- an LF was met behind an open line, which is a command or is skipped
pub record AtNewline (told : Bool) (old : Reach) (line : Open) (now : Reach) : Type 0 where
  pub raw : List ℕ
  pub stands : StandsFor raw line
  pub gives : is_command (strip_carriage_return raw) ≡ true → MeetsLine told (strip_carriage_return raw) old now
  pub skips : is_command (strip_carriage_return raw) ≡ false → Midway told old nothing_open now

-- the end of input was met behind an open line
pub record AtEnd (told : Bool) (old : Reach) (line : Open) (now : Reach) : Type 0 where
  pub midway : Midway told old line now
  pub used : now.pending ≡ []
  pub end : IsTrue told → now.left ≡ []

-- where a step comes to
abbrev pub Steps : Bool → Reach → Open → Reach → Turn → Type 0
Steps told old line now Part = Midway told old line now
Steps told old line now Newline = AtNewline told old line now
Steps told old line now End = AtEnd told old line now

abbrev pub NotAtEnd : Turn → Type 0
NotAtEnd Part = Unit {0}
NotAtEnd Newline = Unit {0}
NotAtEnd End = ⊥

-- this command, ended by an LF
abbrev pub IsEnded : List ℕ → Found → Type 0
IsEnded bytes (Ended line) = line ≡ bytes
IsEnded bytes (Last line) = ⊥
IsEnded bytes Nothing = ⊥

-- what bytes without an LF give where the end of input follows
abbrev pub EndsWith : List ℕ → Found → Type 0
EndsWith raw (Ended line) = ⊥
EndsWith raw (Last line) = commands raw ≡ line ∷ []
EndsWith raw Nothing = commands raw ≡ []

-- why they give nothing
abbrev pub CutsOff : ℕ → List ℕ → LineEnd → Type 0
CutsOff number raw ReadFault = ⊥
CutsOff number raw (LongLine k) = (k ≡ number) × FirstIsLong (commands raw)
CutsOff number raw LongFile = ⊥
CutsOff number raw OutOfMemory = (line : List ℕ) × (length line ≤ most_command) × (commands raw ≡ line ∷ [])
