use Rattle.std.specs.Prelude.{ℕ, List, [], ◌∷◌, ◌++◌, length, Option, Some, None}
use Rattle.dali_tree.specs.declared.choice.Part.{Part}
use Rattle.dali_tree.specs.declared.choice.Choice.{Choice}
use Rattle.dali_entry.specs.EntryRecord.{EntryRecord}
use Rattle.dali_record.specs.Multipliers.{all_zero}
use Rattle.dali_record.specs.TreeText.{two_bytes, eight_bytes, list_text, places_text, tree_text}

-- a part: its members, its bound, and its tree below multipliers that are all 0
abbrev pub part_text : Part → List ℕ
part_text part = places_text part.members ++ (eight_bytes part.bound ++ tree_text part.tree all_zero)

-- a choice: its places, and its parts
abbrev pub choice_text : Choice → List ℕ
choice_text choice = places_text choice.places ++ list_text part_text choice.parts

-- a byte that tells whether there is a choice, and the choice where there is one
abbrev pub option_text : Option Choice → List ℕ
option_text None = 0 ∷ []
option_text (Some choice) = 1 ∷ choice_text choice

-- the one record of an entry: its edition, how long its line is, its line, and its choice where it has one
abbrev pub record_text : EntryRecord → List ℕ
record_text e = e.edition ∷ (two_bytes (length e.line) ++ (e.line ++ option_text e.choice))
