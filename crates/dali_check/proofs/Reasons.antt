use Rattle.std.proofs.Common.{◌≡◌, ◌⊎◌, ℕ, ◌<◌, true, length}
use Rattle.std.specs.List.{All, Any}
use Rattle.dali_problem.specs.Clearing.{Clearing}
use Rattle.dali_problem.specs.Feasible.{IsFeasible}
use Rattle.dali_tree.specs.declared.choice.Part.{Part}
use Rattle.dali_tree.specs.declared.choice.Choice.{Choice}
use Rattle.dali_rest.specs.Addable.{CanAddOne, CanAddRest}
use Rattle.dali_rest.specs.Swappable.{CanSwap}
use Rattle.dali_check.specs.declared.reason.NotAllowed.TheVariants.{Members, Shared, Infeasible, Addable, Swappable, Unproved, NotLean, Overspent, Idle}
use Rattle.dali_check.specs.Proves.{proves_part}
use Rattle.dali_check.specs.Lean.{lean_part}
use Rattle.dali_check.specs.Parts.{ArePartition, AreSeparate, value_in_part, branchings_of}
use Rattle.dali_check.specs.Allowed.{FirstFails, IsIdle, Passed, IsReason, Allowed}
use Rattle.dali_check.proofs.Passing.{passed_none, passed_all, passed_more, pass_members, pass_shared, pass_infeasible, pass_addable, pass_swappable, pass_unproved, pass_not_lean, pass_overspent, pass_idle, none_fails}

abbrev pub CanAdd : Clearing → Choice → Type 0
CanAdd p c = CanAddOne p c.places ⊎ Any (λ (part : Part). CanAddRest p c.places part.members) c.parts

abbrev pub CanSwapIn : Clearing → Choice → Type 0
CanSwapIn p c = Any (λ (part : Part). CanSwap p c.places part.members) c.parts

passed_2 : (p : Clearing) (b : ℕ) (c : Choice) → ArePartition (length p.items) c.parts → Passed p b c 2
passed_2 p b c part = passed_more p b c 1 (passed_none p b c) (pass_members p b c (λ no_part. no_part part))

passed_3 : (p : Clearing) (b : ℕ) (c : Choice) → ArePartition (length p.items) c.parts → AreSeparate p c.parts → Passed p b c 3
passed_3 p b c part apart = passed_more p b c 2 (passed_2 p b c part) (pass_shared p b c (λ shared. shared apart))

passed_4 : (p : Clearing) (b : ℕ) (c : Choice) → ArePartition (length p.items) c.parts → AreSeparate p c.parts → IsFeasible p c.places → Passed p b c 4
passed_4 p b c part apart feasible = passed_more p b c 3 (passed_3 p b c part apart) (pass_infeasible p b c (λ short. short feasible))

passed_5 : (p : Clearing) (b : ℕ) (c : Choice) → ArePartition (length p.items) c.parts → AreSeparate p c.parts → IsFeasible p c.places → ¬ (CanAdd p c) → Passed p b c 5
passed_5 p b c part apart feasible add = passed_more p b c 4 (passed_4 p b c part apart feasible) (pass_addable p b c add)

pub set_passed : (p : Clearing) (b : ℕ) (c : Choice) → ArePartition (length p.items) c.parts → AreSeparate p c.parts → IsFeasible p c.places →
    ¬ (CanAdd p c) → ¬ (CanSwapIn p c) → Passed p b c 6
set_passed p b c part apart feasible add swap = passed_more p b c 5 (passed_5 p b c part apart feasible add) (pass_swappable p b c swap)

pub at_members : (p : Clearing) (b : ℕ) (c : Choice) → ¬ (ArePartition (length p.items) c.parts) → IsReason p b c Members
at_members p b c stands = record { holds = stands; first = passed_none p b c }

pub at_shared : (p : Clearing) (b : ℕ) (c : Choice) → ArePartition (length p.items) c.parts → ¬ (AreSeparate p c.parts) → IsReason p b c Shared
at_shared p b c part stands = record { holds = stands; first = passed_2 p b c part }

pub at_infeasible : (p : Clearing) (b : ℕ) (c : Choice) → ArePartition (length p.items) c.parts → AreSeparate p c.parts → ¬ (IsFeasible p c.places) → IsReason p b c Infeasible
at_infeasible p b c part apart stands = record { holds = stands; first = passed_3 p b c part apart }

pub at_addable : (p : Clearing) (b : ℕ) (c : Choice) → ArePartition (length p.items) c.parts → AreSeparate p c.parts → IsFeasible p c.places → CanAdd p c → IsReason p b c Addable
at_addable p b c part apart feasible stands = record { holds = stands; first = passed_4 p b c part apart feasible }

pub at_swappable : (p : Clearing) (b : ℕ) (c : Choice) → ArePartition (length p.items) c.parts → AreSeparate p c.parts → IsFeasible p c.places → ¬ (CanAdd p c) →
    CanSwapIn p c → IsReason p b c Swappable
at_swappable p b c part apart feasible add stands = record { holds = stands; first = passed_5 p b c part apart feasible add }

pub at_unproved : (p : Clearing) (b : ℕ) (c : Choice) (k : ℕ) → Passed p b c 6 → FirstFails (proves_part p) c.parts k → IsReason p b c (Unproved k)
at_unproved p b c k passed stands = record { holds = stands; first = passed }

passed_7 : (p : Clearing) (b : ℕ) (c : Choice) → Passed p b c 6 → All (λ (part : Part). proves_part p part ≡ true) c.parts → Passed p b c 7
passed_7 p b c passed proved = passed_more p b c 6 passed (pass_unproved p b c (none_fails (proves_part p) c.parts proved))

pub at_not_lean : (p : Clearing) (b : ℕ) (c : Choice) (k : ℕ) → Passed p b c 6 → All (λ (part : Part). proves_part p part ≡ true) c.parts →
    FirstFails (λ (part : Part). lean_part p part (value_in_part p c.places part)) c.parts k → IsReason p b c (NotLean k)
at_not_lean p b c k passed proved stands = record { holds = stands; first = passed_7 p b c passed proved }

pub parts_passed : (p : Clearing) (b : ℕ) (c : Choice) → Passed p b c 6 → All (λ (part : Part). proves_part p part ≡ true) c.parts →
    All (λ (part : Part). lean_part p part (value_in_part p c.places part) ≡ true) c.parts → Passed p b c 8
parts_passed p b c passed proved lean = passed_more p b c 7 (passed_7 p b c passed proved)
    (pass_not_lean p b c (none_fails (λ (part : Part). lean_part p part (value_in_part p c.places part)) c.parts lean))

pub at_overspent : (p : Clearing) (b : ℕ) (c : Choice) → Passed p b c 8 → b < branchings_of c.parts → IsReason p b c Overspent
at_overspent p b c passed stands = record { holds = stands; first = passed }

pub at_idle : (p : Clearing) (b : ℕ) (c : Choice) → Passed p b c 8 → ¬ (b < branchings_of c.parts) → IsIdle p b c → IsReason p b c Idle
at_idle p b c passed within stands = record { holds = stands; first = passed_more p b c 8 passed (pass_overspent p b c within) }

pub budget_passed : (p : Clearing) (b : ℕ) (c : Choice) → Passed p b c 8 → ¬ (b < branchings_of c.parts) → ¬ (IsIdle p b c) → Allowed p b c
budget_passed p b c passed within busy =
    passed_all p b c (passed_more p b c 9 (passed_more p b c 8 passed (pass_overspent p b c within)) (pass_idle p b c busy))
