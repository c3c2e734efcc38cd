use Rattle.std.specs.Prelude.{◌≡◌, ◌≢◌, ℕ, ◌-◌, ◌<◌, ◌≤◌, Bool, false, true, List, [], ◌∷◌, length, slice_index_or, take}
use Rattle.std.specs.List.{Contains}
use Rattle.dali_problem.specs.Clearing.{Clearing}
use Rattle.dali_problem.specs.Limits.{IsProblem}
use Rattle.dali_tree.specs.Fits.{Fits}
use Rattle.dali_tree.specs.declared.choice.Part.{Part}
use Rattle.dali_tree.specs.declared.choice.Choice.{Choice}
use Rattle.dali_check.specs.Allowed.{Allowed}
use Rattle.dali_check.specs.Parts.{branchings_of}
use Rattle.dali_search.specs.Whole.{IsWhole}
use Rattle.dali_restrict.specs.Restriction.{old_of, IsRestriction}
use Rattle.dali_restrict.specs.Widened.{wide_part}

-- what follows serves private functions: no public clause cites it

-- members were searched alone: over a restriction to them the search gave an allowed choice of one part; the part is that one
-- with the old numbers, and of the members those of that choice's set are marked
pub record IsSearched (p : Clearing) (budget : ℕ) (members : List ℕ) (marks : List Bool) (part : Part) : Type 0 where
  pub inner : Clearing
  pub numbers : List ℕ
  pub choice : Choice
  pub one : Part
  pub restriction : IsRestriction p members inner numbers
  pub bounds : IsProblem inner
  pub fits : Fits (length inner.items) (length inner.lines) choice
  pub allowed : Allowed inner budget choice
  pub whole : IsWhole (length inner.items) choice
  pub parts : choice.parts ≡ one ∷ []
  pub wide : part ≡ wide_part members numbers one
  pub marked : (i : ℕ) → i < length members → Contains choice.places i → slice_index_or marks (old_of members i) false ≡ true
  pub unmarked : (i : ℕ) → i < length members → ¬ (Contains choice.places i) → slice_index_or marks (old_of members i) false ≡ false

-- each of these lists was searched, in their order, with what the parts before left of the budget
pub record AreSearched (p : Clearing) (budget : ℕ) (lists : List (List ℕ)) (marks : List Bool) (parts : List Part) : Type 0 where
  pub size : length parts ≡ length lists
  pub each : (k : ℕ) (d : Part) → k < length lists → IsSearched p (budget - branchings_of (take k parts)) (slice_index_or lists k []) marks (slice_index_or parts k d)
  pub within : branchings_of parts ≤ budget

-- no member of a list from the one at i on is marked
pub record AreFree (lists : List (List ℕ)) (i : ℕ) (marks : List Bool) : Type 0 where
  pub free : (k j : ℕ) → i ≤ k → k < length lists → Contains (slice_index_or lists k []) j → slice_index_or marks j false ≡ false

-- behind each of these numbers a member was marked, and nothing else changed
pub record AreChosen (members numbers : List ℕ) (before after : List Bool) : Type 0 where
  pub chosen : (i : ℕ) → Contains numbers i → slice_index_or after (old_of members i) false ≡ true
  pub others : (j : ℕ) → ((i : ℕ) → Contains numbers i → old_of members i ≢ j) → slice_index_or after j false ≡ slice_index_or before j false
