use Rattle.std.proofs.Common.{◌≡◌, inl, inr, ℕ, ◌+◌, ◌<◌, Bool, true, false, List, [], ◌∷◌, length, get_or, sym, ◌∙◌, arith}
use Rattle.std.specs.List.{All}
use Rattle.std.proofs.lemmas.Bool.{cases_eq}
use Rattle.dali_problem.specs.Clearing.{Clearing}
use Rattle.dali_tree.specs.declared.choice.Part.{Part}
use Rattle.dali_tree.specs.declared.choice.Choice.{Choice}
use Rattle.dali_check.specs.declared.reason.NotAllowed.{NotAllowed}
use Rattle.dali_check.specs.declared.reason.NotAllowed.TheVariants.{Members, Shared, Infeasible, Addable, Swappable, Unproved, NotLean, Overspent, Idle}
use Rattle.dali_check.specs.Allowed.{FirstFails, stands, rank, Passed, Allowed}

-- the ranks are 1 to 9
rank_low : (r : NotAllowed) → rank r < 1 → ⊥
rank_low Members below = absurd (omega arith)
rank_low Shared below = absurd (omega arith)
rank_low Infeasible below = absurd (omega arith)
rank_low Addable below = absurd (omega arith)
rank_low Swappable below = absurd (omega arith)
rank_low (Unproved k) below = absurd (omega arith)
rank_low (NotLean k) below = absurd (omega arith)
rank_low Overspent below = absurd (omega arith)
rank_low Idle below = absurd (omega arith)

rank_high : (r : NotAllowed) → rank r < 10
rank_high Members = omega arith
rank_high Shared = omega arith
rank_high Infeasible = omega arith
rank_high Addable = omega arith
rank_high Swappable = omega arith
rank_high (Unproved k) = omega arith
rank_high (NotLean k) = omega arith
rank_high Overspent = omega arith
rank_high Idle = omega arith

-- nothing comes before the first reason
pub passed_none : (p : Clearing) (b : ℕ) (c : Choice) → Passed p b c 1
passed_none p b c = record { none = (λ r below. absurd (rank_low r below)) }

-- and where the last is passed, the choice is allowed
pub passed_all : (p : Clearing) (b : ℕ) (c : Choice) → Passed p b c 10 → Allowed p b c
passed_all p b c passed = record { none = (λ r. passed.none r (rank_high r)) }

-- one reason more is passed, where none of its rank stands
pub passed_more : (p : Clearing) (b : ℕ) (c : Choice) (n : ℕ) → Passed p b c n → ((r : NotAllowed) → rank r ≡ n → ¬ (stands p b c r)) → Passed p b c (n + 1)
passed_more p b c n passed at = record {
  none = (λ r below. elim (cases_eq (rank r) n) as (λ _. ¬ (stands p b c r)) [
    | inl here ↦ at r here
    | inr other ↦ passed.none r (omega arith)
  ]);
}

pub pass_members : (p : Clearing) (b : ℕ) (c : Choice) → ¬ (stands p b c Members) → (r : NotAllowed) → rank r ≡ 1 → ¬ (stands p b c r)
pass_members p b c none Members is = none
pass_members p b c none Shared is = absurd (omega arith)
pass_members p b c none Infeasible is = absurd (omega arith)
pass_members p b c none Addable is = absurd (omega arith)
pass_members p b c none Swappable is = absurd (omega arith)
pass_members p b c none (Unproved k) is = absurd (omega arith)
pass_members p b c none (NotLean k) is = absurd (omega arith)
pass_members p b c none Overspent is = absurd (omega arith)
pass_members p b c none Idle is = absurd (omega arith)

pub pass_shared : (p : Clearing) (b : ℕ) (c : Choice) → ¬ (stands p b c Shared) → (r : NotAllowed) → rank r ≡ 2 → ¬ (stands p b c r)
pass_shared p b c none Members is = absurd (omega arith)
pass_shared p b c none Shared is = none
pass_shared p b c none Infeasible is = absurd (omega arith)
pass_shared p b c none Addable is = absurd (omega arith)
pass_shared p b c none Swappable is = absurd (omega arith)
pass_shared p b c none (Unproved k) is = absurd (omega arith)
pass_shared p b c none (NotLean k) is = absurd (omega arith)
pass_shared p b c none Overspent is = absurd (omega arith)
pass_shared p b c none Idle is = absurd (omega arith)

pub pass_infeasible : (p : Clearing) (b : ℕ) (c : Choice) → ¬ (stands p b c Infeasible) → (r : NotAllowed) → rank r ≡ 3 → ¬ (stands p b c r)
pass_infeasible p b c none Members is = absurd (omega arith)
pass_infeasible p b c none Shared is = absurd (omega arith)
pass_infeasible p b c none Infeasible is = none
pass_infeasible p b c none Addable is = absurd (omega arith)
pass_infeasible p b c none Swappable is = absurd (omega arith)
pass_infeasible p b c none (Unproved k) is = absurd (omega arith)
pass_infeasible p b c none (NotLean k) is = absurd (omega arith)
pass_infeasible p b c none Overspent is = absurd (omega arith)
pass_infeasible p b c none Idle is = absurd (omega arith)

pub pass_addable : (p : Clearing) (b : ℕ) (c : Choice) → ¬ (stands p b c Addable) → (r : NotAllowed) → rank r ≡ 4 → ¬ (stands p b c r)
pass_addable p b c none Members is = absurd (omega arith)
pass_addable p b c none Shared is = absurd (omega arith)
pass_addable p b c none Infeasible is = absurd (omega arith)
pass_addable p b c none Addable is = none
pass_addable p b c none Swappable is = absurd (omega arith)
pass_addable p b c none (Unproved k) is = absurd (omega arith)
pass_addable p b c none (NotLean k) is = absurd (omega arith)
pass_addable p b c none Overspent is = absurd (omega arith)
pass_addable p b c none Idle is = absurd (omega arith)

pub pass_swappable : (p : Clearing) (b : ℕ) (c : Choice) → ¬ (stands p b c Swappable) → (r : NotAllowed) → rank r ≡ 5 → ¬ (stands p b c r)
pass_swappable p b c none Members is = absurd (omega arith)
pass_swappable p b c none Shared is = absurd (omega arith)
pass_swappable p b c none Infeasible is = absurd (omega arith)
pass_swappable p b c none Addable is = absurd (omega arith)
pass_swappable p b c none Swappable is = none
pass_swappable p b c none (Unproved k) is = absurd (omega arith)
pass_swappable p b c none (NotLean k) is = absurd (omega arith)
pass_swappable p b c none Overspent is = absurd (omega arith)
pass_swappable p b c none Idle is = absurd (omega arith)

pub pass_unproved : (p : Clearing) (b : ℕ) (c : Choice) → ((k : ℕ) → ¬ (stands p b c (Unproved k))) → (r : NotAllowed) → rank r ≡ 6 → ¬ (stands p b c r)
pass_unproved p b c none Members is = absurd (omega arith)
pass_unproved p b c none Shared is = absurd (omega arith)
pass_unproved p b c none Infeasible is = absurd (omega arith)
pass_unproved p b c none Addable is = absurd (omega arith)
pass_unproved p b c none Swappable is = absurd (omega arith)
pass_unproved p b c none (Unproved k) is = none k
pass_unproved p b c none (NotLean k) is = absurd (omega arith)
pass_unproved p b c none Overspent is = absurd (omega arith)
pass_unproved p b c none Idle is = absurd (omega arith)

pub pass_not_lean : (p : Clearing) (b : ℕ) (c : Choice) → ((k : ℕ) → ¬ (stands p b c (NotLean k))) → (r : NotAllowed) → rank r ≡ 7 → ¬ (stands p b c r)
pass_not_lean p b c none Members is = absurd (omega arith)
pass_not_lean p b c none Shared is = absurd (omega arith)
pass_not_lean p b c none Infeasible is = absurd (omega arith)
pass_not_lean p b c none Addable is = absurd (omega arith)
pass_not_lean p b c none Swappable is = absurd (omega arith)
pass_not_lean p b c none (Unproved k) is = absurd (omega arith)
pass_not_lean p b c none (NotLean k) is = none k
pass_not_lean p b c none Overspent is = absurd (omega arith)
pass_not_lean p b c none Idle is = absurd (omega arith)

pub pass_overspent : (p : Clearing) (b : ℕ) (c : Choice) → ¬ (stands p b c Overspent) → (r : NotAllowed) → rank r ≡ 8 → ¬ (stands p b c r)
pass_overspent p b c none Members is = absurd (omega arith)
pass_overspent p b c none Shared is = absurd (omega arith)
pass_overspent p b c none Infeasible is = absurd (omega arith)
pass_overspent p b c none Addable is = absurd (omega arith)
pass_overspent p b c none Swappable is = absurd (omega arith)
pass_overspent p b c none (Unproved k) is = absurd (omega arith)
pass_overspent p b c none (NotLean k) is = absurd (omega arith)
pass_overspent p b c none Overspent is = none
pass_overspent p b c none Idle is = absurd (omega arith)

pub pass_idle : (p : Clearing) (b : ℕ) (c : Choice) → ¬ (stands p b c Idle) → (r : NotAllowed) → rank r ≡ 9 → ¬ (stands p b c r)
pass_idle p b c none Members is = absurd (omega arith)
pass_idle p b c none Shared is = absurd (omega arith)
pass_idle p b c none Infeasible is = absurd (omega arith)
pass_idle p b c none Addable is = absurd (omega arith)
pass_idle p b c none Swappable is = absurd (omega arith)
pass_idle p b c none (Unproved k) is = absurd (omega arith)
pass_idle p b c none (NotLean k) is = absurd (omega arith)
pass_idle p b c none Overspent is = absurd (omega arith)
pass_idle p b c none Idle is = none

-- where every part passes a test, none is the first to fail
pub none_fails : (test : Part → Bool) (parts : List Part) → All (λ part. test part ≡ true) parts → (k : ℕ) → ¬ (FirstFails test parts k)
none_fails test parts all k fails =
    let d : Part = get_or parts k (at_end parts k fails.within) in
    false_true (sym (fails.fails d) ∙ all k d fails.within)
  where
    false_true : false ≡ true → ⊥
    false_true is = cc

    at_end : (parts : List Part) (k : ℕ) → k < length parts → Part
    at_end [] k within = absurd (omega arith)
    at_end (q ∷ parts) k within = q
