use Rattle.std.specs.Prelude.{◌≡◌, ◌≢◌, ℕ, ◌<◌, pos, List, [], ◌∷◌, length, slice_index}
use Rattle.std.specs.List.{All, Any, AllPairs, Contains}
use Rattle.dali_problem.specs.Clearing.{Clearing, effect}
use Rattle.dali_problem.specs.Feasible.{ArePlaces}

-- some line is changed by both places
pub record Share (p : Clearing) (i j : ℕ) : Type 0 where
  pub line : ℕ
  pub first : effect p i line ≢ pos 0
  pub second : effect p j line ≢ pos 0

-- from place i over these places to place k, each of which shares a line with the one before it
abbrev pub IsPath : Clearing → ℕ → List ℕ → ℕ → Type 0
IsPath p i [] k = i ≡ k
IsPath p i (j ∷ js) k = Share p i j × IsPath p j js k

-- places are linked where they share a line, or are linked to a third
pub record Linked (p : Clearing) (i k : ℕ) : Type 0 where
  pub over : List ℕ
  pub path : IsPath p i over k

-- a class: a rising list of places that are linked, with each place that is linked to one of them
pub record IsClass (p : Clearing) (part : List ℕ) : Type 0 where
  pub places : ArePlaces p part
  pub some : 0 < length part
  pub linked : (i j : ℕ) → Contains part i → Contains part j → Linked p i j
  pub whole : (i j : ℕ) → Contains part i → Linked p i j → Contains part j

-- the classes of linked places, each once, in order of first members
pub record AreFinest (p : Clearing) (parts : List (List ℕ)) : Type 0 where
  pub each : All (IsClass p) parts
  pub covered : (j : ℕ) → j < length p.items → Any (λ part. Contains part j) parts
  pub order : AllPairs (λ a b. slice_index a 0 < slice_index b 0) parts
