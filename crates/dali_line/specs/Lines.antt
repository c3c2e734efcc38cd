use Rattle.std.specs.Prelude.{◌≡◌, ℕ, ◌+◌, ◌<◌, ◌≤◌, ◌⊎◌, Bool, true, false, IsTrue, List, [], ◌∷◌, ◌++◌, length}
use Rattle.dali_outside.specs.Outside.{Feed}
use Rattle.dali_line.specs.Commands.{commands, ended_commands}
use Rattle.dali_line.specs.Limits.{most_command, most_file}
use Rattle.dali_line.specs.declared.line_end.LineEnd.{LineEnd}
use Rattle.dali_line.specs.declared.line_end.LineEnd.TheVariants.{ReadFault, LongLine, LongFile, OutOfMemory}

-- the most bytes of a day file
abbrev pub MOST_OF_FILE : ℕ
MOST_OF_FILE = most_file

-- A reader of lines: the bytes that were taken and don't belong to a command that was given, how many bytes were
-- taken, how many commands were given, and whether no more come: the end of input was met, or an error was answered.
pub record Reader : Type 0 where
  pub pending : List ℕ
  pub taken : ℕ
  pub given : ℕ
  pub over : Bool

-- how far a file was read: the bytes pending, how many were taken, and the bytes left in the source
pub record Reach : Type 0 where
  pub pending : List ℕ
  pub taken : ℕ
  pub left : List ℕ

abbrev pub reached : Reader → Feed → Reach
reached reader feed = record { pending = reader.pending; taken = reader.taken; left = feed.left }

abbrev pub reach : List ℕ → ℕ → Feed → Reach
reach pending taken feed = record { pending = pending; taken = taken; left = feed.left }

-- the bytes that a call got from its source
pub record Gets (told : Bool) (old : Reach) (got : List ℕ) (new : Reach) : Type 0 where
  pub moved : IsTrue told → old.left ≡ got ++ new.left
  pub taken : new.taken ≡ old.taken + length got
  pub within : new.taken ≤ most_file

-- the first of these commands has more than 200 bytes
abbrev pub FirstIsLong : List (List ℕ) → Type 0
FirstIsLong [] = ⊥
FirstIsLong (command ∷ more) = most_command < length command

-- whatever follows these bytes, their first command has a 201st byte
abbrev pub IsLong : List ℕ → Type 0
IsLong bytes = (rest : List ℕ) → FirstIsLong (commands (bytes ++ rest))

-- the next command was met, and an LF ended it
pub record MeetsLine (told : Bool) (line : List ℕ) (old new : Reach) : Type 0 where
  pub got : List ℕ
  pub gets : Gets told old got new
  pub used : List ℕ
  pub parted : old.pending ++ got ≡ used ++ new.pending
  pub first : (rest : List ℕ) → commands (used ++ rest) ≡ line ∷ commands rest
  pub ended : (rest : List ℕ) → ended_commands (used ++ rest) ≡ line ∷ ended_commands rest

-- the last command was met, and the end of input ended it
pub record MeetsLast (told : Bool) (line : List ℕ) (old new : Reach) : Type 0 where
  pub got : List ℕ
  pub gets : Gets told old got new
  pub only : commands (old.pending ++ got) ≡ line ∷ []
  pub end : IsTrue told → new.left ≡ []
  pub used : new.pending ≡ []

-- the end of input was met, and no command was left
pub record MeetsEnd (told : Bool) (old new : Reach) : Type 0 where
  pub got : List ℕ
  pub gets : Gets told old got new
  pub none : commands (old.pending ++ got) ≡ []
  pub end : IsTrue told → new.left ≡ []
  pub used : new.pending ≡ []

-- a take failed: no command had ended in the bytes taken, and none was long
pub record BreaksOff (told : Bool) (old new : Reach) : Type 0 where
  pub got : List ℕ
  pub gets : Gets told old got new
  pub none_ended : ended_commands (old.pending ++ got) ≡ []
  pub none_long : ¬ (IsLong (old.pending ++ got))

-- the end of input was met within the limit, and by it the next command has a 201st byte
pub record IsLongAtEnd (told : Bool) (got : List ℕ) (old new : Reach) : Type 0 where
  pub long : FirstIsLong (commands (old.pending ++ got))
  pub within : old.taken + length got ≤ most_file
  pub end : IsTrue told → new.left ≡ []

-- the next command has a 201st byte, whatever follows, or by the end of input
pub record FindsLong (told : Bool) (old new : Reach) : Type 0 where
  pub got : List ℕ
  pub moved : IsTrue told → old.left ≡ got ++ new.left
  pub within : old.taken + length got ≤ most_file + 1
  pub long : IsLong (old.pending ++ got) ⊎ IsLongAtEnd told got old new

-- a byte past the limit was taken: no command had ended within the limit, and none was long
pub record PassesLimit (told : Bool) (old new : Reach) : Type 0 where
  pub got : List ℕ
  pub past : ℕ
  pub moved : IsTrue told → old.left ≡ (got ++ past ∷ []) ++ new.left
  pub limit : old.taken + length got ≡ most_file
  pub none_ended : ended_commands (old.pending ++ got) ≡ []
  pub none_long : ¬ (IsLong (old.pending ++ (got ++ past ∷ [])))

-- the next command was given
pub record Gives (told : Bool) (line : List ℕ) (old new : Reader) (before after : Feed) : Type 0 where
  pub given : new.given ≡ old.given + 1
  pub next : ((new.over ≡ false) × MeetsLine told line (reached old before) (reached new after))
      ⊎ ((new.over ≡ true) × MeetsLast told line (reached old before) (reached new after))

-- want of memory: the next command was met, whole and not too long, and only room for it was wanted; the bytes that were
-- taken are gone
pub record WantsMemory (told : Bool) (old new : Reach) : Type 0 where
  pub got : List ℕ
  pub moved : IsTrue told → old.left ≡ got ++ new.left
  pub within : old.taken + length got ≤ most_file
  pub line : List ℕ
  pub short : length line ≤ most_command
  pub met : MeetsLine told line old new ⊎ MeetsLast told line old new

-- the end of input was met, and no command was left
pub record Ends (told : Bool) (old new : Reader) (before after : Feed) : Type 0 where
  pub given : new.given ≡ old.given
  pub over : new.over ≡ true
  pub meets : MeetsEnd told (reached old before) (reached new after)

-- why command `number` wasn't given
abbrev pub Stops : Bool → ℕ → Reach → Reach → LineEnd → Type 0
Stops told number old new ReadFault = BreaksOff told old new
Stops told number old new (LongLine k) = (k ≡ number) × FindsLong told old new
Stops told number old new LongFile = PassesLimit told old new
Stops told number old new OutOfMemory = WantsMemory told old new
