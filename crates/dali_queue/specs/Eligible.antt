use Rattle.std.specs.Prelude.{ℕ, zero, suc, ◌<◌, List, [], ◌∷◌, ◌++◌, map, length}
use Rattle.std.specs.List.{All, AllPairs}
use Rattle.dali_queue.specs.declared.cutoffs.Cutoffs.{Cutoffs}
use Rattle.dali_queue.specs.declared.entries.Entry.{Entry}
use Rattle.dali_queue.specs.Queue.{Queued, QueueRecord}

-- what follows serves the proofs of private functions: no public clause cites it

-- the queued instructions of some entries
abbrev pub waiting_of : List Entry → List Queued
waiting_of entries = map (λ (e : Entry). record { item = e.item; group = e.group }) entries

-- a queue of these entries. Which ids were used doesn't matter
abbrev pub queue_with : List Entry → Cutoffs → QueueRecord
queue_with entries cutoffs = record { waiting = waiting_of entries; used = []; cutoffs = cutoffs }

-- one more place in the list of this number; a number past the last one begins a list
abbrev pub with_place : List (List ℕ) → ℕ → ℕ → List (List ℕ)
with_place [] k place = (place ∷ []) ∷ []
with_place (ps ∷ pss) zero place = (ps ++ place ∷ []) ∷ pss
with_place (ps ∷ pss) (suc k) place = ps ∷ with_place pss k place

-- some rising places of a queue
pub record ArePlaces (ws : List Queued) (places : List ℕ) : Type 0 where
  pub some : 0 < length places
  pub rising : AllPairs (λ i j. i < j) places
  pub in_range : All (λ p. p < length ws) places
