use Rattle.std.proofs.Common.{◌≡◌, ◌≢◌, ◌⊎◌, inl, inr, ℕ, zero, suc, ◌+◌, ◌<◌, ◌≤◌, ◌^◌, ℤ, pos, ◌≤ℤ◌, Bool, true, false, ◌&&◌, List, length, get_or, refl, ap, sym, ◌∙◌, subst, arith}
use Rattle.std.specs.List.{All}
use Rattle.std.specs.Int.Signed.{le_z}
use Rattle.std.proofs.lemmas.Bool.{cases_Bool, cases_eq, cases_lt}
use Rattle.std.proofs.lemmas.List.{get_or_default}
use Rattle.dali_problem.specs.Clearing.{Clearing}
use Rattle.dali_problem.specs.Feasible.{IsFeasible, booked, value_of, has}
use Rattle.dali_tree.specs.declared.choice.Part.{Part}
use Rattle.dali_tree.specs.declared.choice.Choice.{Choice}
use Rattle.dali_rest.specs.Addable.{CanAddRest}
use Rattle.dali_rest.specs.Swappable.{CanSwap}
use Rattle.dali_lagrange.proofs.SettledLaws.{le_decides}
use Rattle.dali_check.specs.declared.reason.NotAllowed.{NotAllowed}
use Rattle.dali_check.specs.declared.reason.NotAllowed.TheVariants.{Members, Shared, Infeasible, Addable, Swappable, Unproved, NotLean, Overspent, Idle}
use Rattle.dali_check.specs.Proves.{proves_part}
use Rattle.dali_check.specs.Lean.{lean_part}
use Rattle.dali_check.specs.Parts.{some_has, ArePartition, changes, AreSeparate, value_in_part, bound_of, branchings_of}
use Rattle.dali_check.specs.Allowed.{FirstFails, stands, Allowed, IsCertified}
use Rattle.dali_check.proofs.Passing.{none_fails}

-- What can be tested isn't false only where it is true.

is_not_false : (b : Bool) → ((b ≡ false) → ⊥) → b ≡ true
is_not_false true none = refl
is_not_false false none = absurd (none refl)

is_not_true : (b : Bool) → ((b ≡ true) → ⊥) → b ≡ false
is_not_true true none = absurd (none refl)
is_not_true false none = refl

false_true : false ≡ true → ⊥
false_true is = cc

cases_sign : (z : ℤ) → (pos 0 ≤ℤ z) ⊎ ¬ (pos 0 ≤ℤ z)
cases_sign z = elim (cases_Bool (le_z (pos 0) z)) as (λ _. (pos 0 ≤ℤ z) ⊎ ¬ (pos 0 ≤ℤ z)) [
  | inl told ↦ inl ((le_decides (pos 0) z).0 told)
  | inr told ↦ inr (λ covered. false_true (sym told ∙ (le_decides (pos 0) z).1 covered))
]

feasible_or : (p : Clearing) (s : List ℕ) → ¬ (¬ (IsFeasible p s)) → IsFeasible p s
feasible_or p s not_short = record {
  covered = (λ l below. elim (cases_sign (booked p s l)) as (λ _. pos 0 ≤ℤ booked p s l) [
    | inl covered ↦ covered
    | inr short ↦ absurd (not_short (λ feasible. short (feasible.covered l below)))
  ]);
}

partition_or : (n : ℕ) (parts : List Part) → ¬ (¬ (ArePartition n parts)) → ArePartition n parts
partition_or n parts not_none = record {
  some = (λ k d within. elim (cases_lt 0 (length (get_or parts k d).members)) as (λ _. 0 < length (get_or parts k d).members) [
    | inl some ↦ some
    | inr none ↦ absurd (not_none (λ are. absurd (omega (arith, are.some k d within, none))))
  ]);
  covered = (λ j below. is_not_false (some_has parts j) (λ none. not_none (λ are. false_true (sym none ∙ are.covered j below))));
  apart = (λ i j d before within k. is_not_true (has (get_or parts i d).members k && has (get_or parts j d).members k)
      (λ both. not_none (λ are. false_true (sym (are.apart i j d before within k) ∙ both))));
}

separate_or : (p : Clearing) (parts : List Part) → ¬ (¬ (AreSeparate p parts)) → AreSeparate p parts
separate_or p parts not_shared = record {
  separate = (λ i j d before within l. is_not_true (changes p (get_or parts i d) l && changes p (get_or parts j d) l)
      (λ both. not_shared (λ are. false_true (sym (are.separate i j d before within l) ∙ both))));
}

-- where no part is the first to fail a test, every part passes it
below_pass : (test : Part → Bool) (parts : List Part) → ((k : ℕ) → ¬ (FirstFails test parts k)) → (n : ℕ) → n ≤ length parts →
    (i : ℕ) (d : Part) → i < n → test (get_or parts i d) ≡ true
below_pass test parts none zero most i d below = absurd (omega arith)
below_pass test parts none (suc n) most i d below =
    let before : (i : ℕ) (d : Part) → i < n → test (get_or parts i d) ≡ true = below_pass test parts none n (omega arith) in
    elim (cases_eq i n) as (λ _. test (get_or parts i d) ≡ true) [
      | inl here ↦ is_not_false (test (get_or parts i d)) (λ fails. none n (record {
        within = omega arith;
        fails = (λ e. ap test (get_or_default parts n e d (omega arith)) ∙ ap (λ k. test (get_or parts k d)) (sym here) ∙ fails);
        first = before;
      }))
      | inr other ↦ before i d (omega arith)
    ]

all_pass : (test : Part → Bool) (parts : List Part) → ((k : ℕ) → ¬ (FirstFails test parts k)) → All (λ part. test part ≡ true) parts
all_pass test parts none k d within = below_pass test parts none (length parts) (omega arith) k d within

-- an allowed choice is all that is said of one
pub certified : (p : Clearing) (budget : ℕ) (choice : Choice) → Allowed p budget choice → IsCertified p budget choice
certified p budget choice allowed = record {
  whole = record {
    partition = partition_or (length p.items) choice.parts (allowed.none Members);
    separate = separate_or p choice.parts (allowed.none Shared);
    feasible = feasible_or p choice.places (allowed.none Infeasible);
  };
  none_more = (λ add. allowed.none Addable (inl add));
  no_rest = (λ k d within add. allowed.none Addable (inr (k, get_or choice.parts k d, within, get_or_default choice.parts k (get_or choice.parts k d) d within, add)));
  no_better = (λ k d within swap. allowed.none Swappable (k, get_or choice.parts k d, within, get_or_default choice.parts k (get_or choice.parts k d) d within, swap));
  proved = all_pass (proves_part p) choice.parts (λ k. allowed.none (Unproved k));
  lean = all_pass (λ (part : Part). lean_part p part (value_in_part p choice.places part)) choice.parts (λ k. allowed.none (NotLean k));
  within = not_over (allowed.none Overspent);
  spent = (λ above. (
    elim (cases_eq (branchings_of choice.parts) budget) as (λ _. branchings_of choice.parts ≡ budget) [
      | inl same ↦ same
      | inr other ↦ absurd (allowed.none Idle (record { above = above; unspent = inl other }))
    ],
    not_enough (λ enough. allowed.none Idle (record { above = above; unspent = inr enough })),
  ));
}
  where
    not_over : ¬ (budget < branchings_of choice.parts) → branchings_of choice.parts ≤ budget
    not_over denied = elim (cases_lt budget (branchings_of choice.parts)) as (λ _. branchings_of choice.parts ≤ budget) [
      | inl over ↦ absurd (denied over)
      | inr within ↦ within
    ]

    not_enough : ¬ (2 ^ length p.items ≤ budget + 1) → budget + 1 < 2 ^ length p.items
    not_enough denied = elim (cases_lt (budget + 1) (2 ^ length p.items)) as (λ _. budget + 1 < 2 ^ length p.items) [
      | inl less ↦ less
      | inr enough ↦ absurd (denied enough)
    ]

-- and whatever is all that is allowed
pub allowed_of : (p : Clearing) (budget : ℕ) (choice : Choice) → IsCertified p budget choice → Allowed p budget choice
allowed_of p budget choice is = record { none = none }
  where
    none : (reason : NotAllowed) → ¬ (stands p budget choice reason)
    none Members denied = denied is.whole.partition
    none Shared denied = denied is.whole.separate
    none Infeasible denied = denied is.whole.feasible
    none Addable add = elim add as (λ _. ⊥) [
      | inl one ↦ is.none_more one
      | inr some ↦ is.no_rest some.0 some.1 some.2 (subst (λ (q : Part). CanAddRest p choice.places q.members) (sym some.3) some.4)
    ]
    none Swappable some = is.no_better some.0 some.1 some.2 (subst (λ (q : Part). CanSwap p choice.places q.members) (sym some.3) some.4)
    none (Unproved k) fails = none_fails (proves_part p) choice.parts is.proved k fails
    none (NotLean k) fails = none_fails (λ (part : Part). lean_part p part (value_in_part p choice.places part)) choice.parts is.lean k fails
    none Overspent over = absurd (omega (arith, over, is.within))
    none Idle idle = elim idle.unspent as (λ _. ⊥) [
      | inl other ↦ other (is.spent idle.above).0
      | inr enough ↦ absurd (omega (arith, enough, (is.spent idle.above).1))
    ]
