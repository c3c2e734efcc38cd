-- Whether an entry has its choice: what the tests of the checker say of it, and that the machine gives a choice back.
use Rattle.std.proofs.Common.{◌≡◌, ◌↔◌, ◌∙◌, ℕ, List, length, Option, Some, None, refl, sym, ap, subst}
use Rattle.std.specs.Prelude.{unwrap_or, Bool, IsTrue, Result, Ok, Err, IfOk, OnOk, IfErr, is_ok}
use Rattle.std.specs.Option.{option_map}
use Rattle.dali_check.specs.Allowed.{Allowed, IsReason}
use Rattle.dali_check.specs.declared.reason.NotAllowed.{NotAllowed}
use Rattle.dali_problem.specs.Clearing.{Clearing}
use Rattle.dali_queue.specs.declared.cycle.CycleInput.{CycleInput}
use Rattle.dali_tree.specs.declared.choice.Choice.{Choice}
use Rattle.dali_tree.specs.Fits.{Fits}
use Rattle.dali_machine.specs.Cycles.{Cycling, HasChoice, IsChoiceFor, accepted_cycle, cycling, input_at, problem_at}
use Rattle.dali_machine.specs.Machine.{Machine}
use Rattle.dali_machine.specs.History.{HasItsChoice}
use Rattle.dali_machine.specs.Step.{judged, step}
use Rattle.dali_machine.specs.declared.judged.Judged.{Judged}
use Rattle.dali_machine.proofs.Cycling.{input_problem}
use Rattle.dali_machine.proofs.Committing.{step_outcome, cycle_told}
use Rattle.dali_recover.specs.Taking.{choice_in}

-- a choice for which a reason stands isn't allowed
pub not_allowed : (p : Clearing) (budget : ℕ) (choice : Choice) (reason : NotAllowed) → IsReason p budget choice reason → IsChoiceFor p budget choice → ⊥
not_allowed p budget choice reason stands is = is.allowed.none reason stands.holds

-- the answer of the checker is whether the choice is the problem's own
pub allowed_is : (p : Clearing) (budget : ℕ) (choice : Choice) (r : Result Unit NotAllowed) → Fits (length p.items) (length p.lines) choice → OnOk r (Allowed p budget choice) →
    IfErr r (λ reason. IsReason p budget choice reason) → IsTrue (is_ok r) ↔ IsChoiceFor p budget choice
allowed_is p budget choice (Ok u) fits allowed reason = ((λ _. record { fits = fits; allowed = allowed }), (λ _. refl))
allowed_is p budget choice (Err e) fits allowed reason = ((λ is. absurd (cc)), (λ is. absurd (not_allowed p budget choice e reason is)))

-- the same answer to a question that says the same
pub answers_too : {E : Type 0} (r : Result Bool E) (P Q : Type 0) → P ↔ Q → IfOk r (λ b. IsTrue b ↔ P) → IfOk r (λ b. IsTrue b ↔ Q)
answers_too (Ok b) P Q same is = ((λ t. same.0 (is.0 t)), (λ q. is.1 (same.1 q)))
answers_too (Err e) P Q same is = tt

-- what the machine tells of a judged line's cycle
abbrev told_of : Machine → Option (ℕ × ℕ) → Option (CycleInput × ℕ)
told_of m o = option_map (λ (c : ℕ × ℕ). (input_at m c.0, c.1)) o

abbrev pub Tells : Machine → Judged → Option (CycleInput × ℕ) → Type 0
Tells m j found = found ≡ told_of m (accepted_cycle j)

pub none_has : (m : Machine) (j : Judged) → Tells m j None → HasItsChoice m j None
none_has m j told = by (accepted_cycle j) told
  where
    by : (o : Option (ℕ × ℕ)) → None ≡ told_of m o → HasChoice m o None
    by None e = tt
    by (Some c) e = absurd (cc)

pub none_lacks : (m : Machine) (j : Judged) (choice : Choice) → Tells m j None → HasItsChoice m j (Some choice) → ⊥
none_lacks m j choice told has = by (accepted_cycle j) told has
  where
    by : (o : Option (ℕ × ℕ)) → None ≡ told_of m o → HasChoice m o (Some choice) → ⊥
    by None e none = none
    by (Some c) e is = absurd (cc)

pub some_lacks : (m : Machine) (j : Judged) (cycle : CycleInput × ℕ) → Tells m j (Some cycle) → HasItsChoice m j None → ⊥
some_lacks m j cycle told has = by (accepted_cycle j) told has
  where
    by : (o : Option (ℕ × ℕ)) → Some cycle ≡ told_of m o → HasChoice m o None → ⊥
    by None e none = absurd (cc)
    by (Some c) e is = is

pub some_has : (m : Machine) (j : Judged) (cycle : CycleInput × ℕ) (choice : Choice) → Tells m j (Some cycle) → IsChoiceFor cycle.0.problem cycle.1 choice ↔ HasItsChoice m j (Some choice)
some_has m j cycle choice told = by (accepted_cycle j) told
  where
    by : (o : Option (ℕ × ℕ)) → Some cycle ≡ told_of m o → IsChoiceFor cycle.0.problem cycle.1 choice ↔ HasChoice m o (Some choice)
    by None e = absurd (cc)
    by (Some c) e =
        let problem : cycle.0.problem ≡ problem_at m c.0 = ap (λ (o : Option (CycleInput × ℕ)). (unwrap_or o cycle).0.problem) e ∙ input_problem m c.0 in
        let budget : cycle.1 ≡ c.1 = ap (λ (o : Option (CycleInput × ℕ)). (unwrap_or o cycle).1) e in (
          (λ is. subst (λ b. IsChoiceFor (problem_at m c.0) b choice) budget (subst (λ (p : Clearing). IsChoiceFor p cycle.1 choice) problem is)),
          (λ is. subst (λ (p : Clearing). IsChoiceFor p cycle.1 choice) (sym problem) (subst (λ b. IsChoiceFor (problem_at m c.0) b choice) (sym budget) is)),
        )

-- the machine gives back the choice that it was given
pub choice_back : (m : Machine) (edition : ℕ) (line : List ℕ) (choice : Option Choice) → HasItsChoice m (judged edition m line) choice → choice_in (step edition m line choice).outcome ≡ choice
choice_back m edition line choice has =
    ap choice_in (step_outcome m edition line choice) ∙ ap (λ (o : Option Cycling). option_map (λ (c : Cycling). c.choice) o) (cycle_told m (judged edition m line) choice)
    ∙ by (accepted_cycle (judged edition m line)) choice has
  where
    by : (o : Option (ℕ × ℕ)) (choice : Option Choice) → HasChoice m o choice → option_map (λ (c : Cycling). c.choice) (cycling o choice) ≡ choice
    by None None none = refl
    by None (Some choice) none = absurd none
    by (Some c) None none = absurd none
    by (Some c) (Some choice) is = refl
