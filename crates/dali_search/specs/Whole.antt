use Rattle.std.specs.Prelude.{◌≡◌, ℕ, ◌==◌, [], ◌∷◌, map, if◌then◌else◌}
use Rattle.dali_tree.specs.declared.choice.Part.{Part}
use Rattle.dali_tree.specs.declared.choice.Choice.{Choice}
use Rattle.dali_search.specs.Start.{all_places}

-- what the parts have as members: all of n places in one part, and no part where there are no places
abbrev pub IsWhole : ℕ → Choice → Type 0
IsWhole n choice = map (λ (part : Part). part.members) choice.parts ≡ (if n == 0 then [] else all_places n ∷ [])
