use Rattle.std.specs.Prelude.{◌≡◌, ℕ, List, [], ◌∷◌, ◌++◌, Option, Some, None, map}
use Rattle.std.specs.List.{All}
use Rattle.dali_entry.specs.EntryRecord.{EntryRecord}
use Rattle.dali_machine.specs.Cycles.{accepted_cycle, problem_at}
use Rattle.dali_machine.specs.History.{after_entry, state_of}
use Rattle.dali_machine.specs.Machine.{Machine}
use Rattle.dali_machine.specs.Step.{judged}
use Rattle.dali_parts.specs.Finest.{AreFinest}
use Rattle.dali_tree.specs.declared.choice.Choice.{Choice}
use Rattle.dali_tree.specs.declared.choice.Part.{Part}

-- the parts of a cycle's choice are exactly the finest ones of the cycle's problem
abbrev pub HasFinest : Machine → Option Choice → Option (ℕ × ℕ) → Type 0
HasFinest m None cycle = Unit {0}
HasFinest m (Some choice) None = Unit {0}
HasFinest m (Some choice) (Some cycle) = AreFinest (problem_at m cycle.0) (map (λ (part : Part). part.members) choice.parts)

-- so are those of each entry after a state, one after the other
abbrev pub HaveFinest : Machine → List EntryRecord → Type 0
HaveFinest m [] = Unit {0}
HaveFinest m (e ∷ es) = HasFinest m e.choice (accepted_cycle (judged e.edition m e.line)) × HaveFinest (after_entry m e) es

-- each entry behind those that were found is of this edition, and its choice has the finest parts
pub record AreAdded (edition : ℕ) (found entries : List EntryRecord) : Type 0 where
  pub more : List EntryRecord
  pub parts : entries ≡ found ++ more
  pub own : All (λ (e : EntryRecord). e.edition ≡ edition) more
  pub finest : HaveFinest (state_of found) more
