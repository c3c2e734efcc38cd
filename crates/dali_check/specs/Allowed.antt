use Rattle.std.specs.Prelude.{◌≡◌, ◌≢◌, ℕ, ◌+◌, ◌^◌, ◌<◌, ◌≤◌, Bool, true, false, ◌⊎◌, List, length, slice_index_or}
use Rattle.std.specs.List.{All, Any}
use Rattle.dali_problem.specs.Clearing.{Clearing}
use Rattle.dali_problem.specs.Feasible.{IsFeasible, value_of}
use Rattle.dali_tree.specs.declared.choice.Part.{Part}
use Rattle.dali_tree.specs.declared.choice.Choice.{Choice}
use Rattle.dali_rest.specs.Addable.{CanAddOne, CanAddRest}
use Rattle.dali_rest.specs.Swappable.{CanSwap}
use Rattle.dali_check.specs.declared.reason.NotAllowed.{NotAllowed}
use Rattle.dali_check.specs.declared.reason.NotAllowed.TheVariants.{Members, Shared, Infeasible, Addable, Swappable, Unproved, NotLean, Overspent, Idle}
use Rattle.dali_check.specs.Proves.{proves_part}
use Rattle.dali_check.specs.Lean.{lean_part}
use Rattle.dali_check.specs.Parts.{ArePartition, AreSeparate, value_in_part, bound_of, branchings_of}

-- k is the first part that fails a test
pub record FirstFails (test : Part → Bool) (parts : List Part) (k : ℕ) : Type 0 where
  pub within : k < length parts
  pub fails : (d : Part) → test (slice_index_or parts k d) ≡ false
  pub first : (i : ℕ) (d : Part) → i < k → test (slice_index_or parts i d) ≡ true

-- the bounds are above the value of the set, and the budget isn't spent or is enough for every set of places
pub record IsIdle (p : Clearing) (budget : ℕ) (choice : Choice) : Type 0 where
  pub above : value_of p choice.places < bound_of choice.parts
  pub unspent : (branchings_of choice.parts ≢ budget) ⊎ (2 ^ length p.items ≤ budget + 1)

-- what each reason says
abbrev pub stands : Clearing → ℕ → Choice → NotAllowed → Type 0
stands p budget choice Members = ¬ (ArePartition (length p.items) choice.parts)
stands p budget choice Shared = ¬ (AreSeparate p choice.parts)
stands p budget choice Infeasible = ¬ (IsFeasible p choice.places)
stands p budget choice Addable = CanAddOne p choice.places ⊎ Any (λ (part : Part). CanAddRest p choice.places part.members) choice.parts
stands p budget choice Swappable = Any (λ (part : Part). CanSwap p choice.places part.members) choice.parts
stands p budget choice (Unproved k) = FirstFails (proves_part p) choice.parts k
stands p budget choice (NotLean k) = FirstFails (λ (part : Part). lean_part p part (value_in_part p choice.places part)) choice.parts k
stands p budget choice Overspent = budget < branchings_of choice.parts
stands p budget choice Idle = IsIdle p budget choice

-- the order of the reasons
abbrev pub rank : NotAllowed → ℕ
rank Members = 1
rank Shared = 2
rank Infeasible = 3
rank Addable = 4
rank Swappable = 5
rank (Unproved k) = 6
rank (NotLean k) = 7
rank Overspent = 8
rank Idle = 9

-- no reason of a rank below n stands
pub record Passed (p : Clearing) (budget : ℕ) (choice : Choice) (n : ℕ) : Type 0 where
  pub none : (reason : NotAllowed) → rank reason < n → ¬ (stands p budget choice reason)

-- a reason stands, and none before it does
pub record IsReason (p : Clearing) (budget : ℕ) (choice : Choice) (reason : NotAllowed) : Type 0 where
  pub holds : stands p budget choice reason
  pub first : Passed p budget choice (rank reason)

-- no reason stands
pub record Allowed (p : Clearing) (budget : ℕ) (choice : Choice) : Type 0 where
  pub none : (reason : NotAllowed) → ¬ (stands p budget choice reason)

-- the parts are a partition that shares no line, and the set is feasible
pub record IsWhole (p : Clearing) (choice : Choice) : Type 0 where
  pub partition : ArePartition (length p.items) choice.parts
  pub separate : AreSeparate p choice.parts
  pub feasible : IsFeasible p choice.places

-- What an allowed choice is, each thing said of itself: the parts are a partition that shares no line, and the set is
-- feasible; nothing can be added to the set, alone or as the rest of a part, and no member exchanged for a better one; each
-- part is proved and lean; and the branchings are within the budget. Where the bounds are above the value of the set, the
-- budget is spent to the last branching, and isn't enough for every set of places.
pub record IsCertified (p : Clearing) (budget : ℕ) (choice : Choice) : Type 0 where
  pub whole : IsWhole p choice
  pub none_more : ¬ (CanAddOne p choice.places)
  pub no_rest : All (λ (part : Part). ¬ (CanAddRest p choice.places part.members)) choice.parts
  pub no_better : All (λ (part : Part). ¬ (CanSwap p choice.places part.members)) choice.parts
  pub proved : All (λ (part : Part). proves_part p part ≡ true) choice.parts
  pub lean : All (λ (part : Part). lean_part p part (value_in_part p choice.places part) ≡ true) choice.parts
  pub within : branchings_of choice.parts ≤ budget
  pub spent : value_of p choice.places < bound_of choice.parts → (branchings_of choice.parts ≡ budget) × (budget + 1 < 2 ^ length p.items)
