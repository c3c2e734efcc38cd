use Rattle.std.specs.Prelude.{ℕ, zero, suc, ◌==◌, nat_lt, List, [], ◌∷◌, length, take, drop, Option, Some, None, if◌then◌else◌}
use Rattle.std.specs.Int.{w16, w64}
use Rattle.dali_base.specs.Limits.{most_budget, most_depth}
use Rattle.dali_line.specs.Line.{is_line}
use Rattle.dali_tree.specs.declared.choice.Part.{Part}
use Rattle.dali_tree.specs.declared.choice.Choice.{Choice}
use Rattle.dali_entry.specs.EntryRecord.{EntryRecord}
use Rattle.dali_record.specs.Multipliers.{all_zero}
use Rattle.dali_record.specs.Reading.{◌>>=◌, number_at, list_at, place_at, tree_at}

-- a part, where so many branches are left: with how many are left behind it
unfoldable pub part_at : ℕ → List ℕ → Option (Part × ℕ × List ℕ)
part_at left bytes = do
  members ← list_at place_at bytes
  bound ← number_at w64 members.1
  tree ← tree_at most_depth left all_zero bound.1
  Some (record { members = members.0; bound = bound.0; tree = tree.0 }, tree.1, tree.2)

-- so many parts
unfoldable pub parts_at : ℕ → ℕ → List ℕ → Option (List Part × ℕ × List ℕ)
parts_at zero left bytes = Some ([], left, bytes)
parts_at (suc n) left bytes = do
  first ← part_at left bytes
  others ← parts_at n first.1 first.2
  Some (first.0 ∷ others.0, others.1, others.2)

unfoldable pub choice_at : List ℕ → Option (Choice × List ℕ)
choice_at bytes = do
  places ← list_at place_at bytes
  n ← number_at w16 places.1
  parts ← parts_at n.0 most_budget n.1
  Some (record { places = places.0; parts = parts.0 }, parts.2)

unfoldable pub option_at : List ℕ → Option (Option Choice × List ℕ)
option_at [] = None
option_at (b ∷ bytes) =
    if b == 0 then Some (None, bytes)
    else if b == 1 then (choice_at bytes >>= λ choice. Some (Some choice.0, choice.1))
    else None

unfoldable pub line_at : List ℕ → Option (List ℕ × List ℕ)
line_at bytes = do
  n ← number_at w16 bytes
  if nat_lt (length n.1) n.0 then None else (if is_line (take n.0 n.1) then Some (take n.0 n.1, drop n.0 n.1) else None)

unfoldable pub entry_at : List ℕ → Option (EntryRecord × List ℕ)
entry_at [] = None
entry_at (b ∷ bytes) = do
  line ← line_at bytes
  choice ← option_at line.1
  Some (record { edition = b; line = line.0; choice = choice.0 }, choice.1)
