use Rattle.std.proofs.Common.{◌≡◌, ℕ, length, Option, Some, None, ap, ◌∙◌, subst}
use Rattle.std.specs.Prelude.{unwrap_or}
use Rattle.std.specs.Option.{option_map}
use Rattle.dali_check.specs.Allowed.{Allowed}
use Rattle.dali_problem.specs.Clearing.{Clearing}
use Rattle.dali_queue.specs.declared.cycle.CycleInput.{CycleInput}
use Rattle.dali_tree.specs.declared.choice.Choice.{Choice}
use Rattle.dali_tree.specs.Fits.{Fits}
use Rattle.dali_machine.specs.Cycles.{HasChoice, IsChoiceFor, accepted_cycle, input_at, problem_at}
use Rattle.dali_machine.specs.History.{HasItsChoice}
use Rattle.dali_machine.specs.Machine.{Machine}
use Rattle.dali_machine.specs.declared.judged.Judged.{Judged}
use Rattle.dali_machine.proofs.Cycling.{input_problem}

-- a choice that is allowed for the problem of an accepted CYCLE is its own
pub has_choice : (m : Machine) (j : Judged) (cycle : CycleInput × ℕ) (choice : Choice) → Some cycle ≡ option_map (λ (c : ℕ × ℕ). (input_at m c.0, c.1)) (accepted_cycle j) →
    Fits (length cycle.0.problem.items) (length cycle.0.problem.lines) choice → Allowed cycle.0.problem cycle.1 choice → HasItsChoice m j (Some choice)
has_choice m j cycle choice found fits allowed = by (accepted_cycle j) found
  where
    by : (o : Option (ℕ × ℕ)) → Some cycle ≡ option_map (λ (c : ℕ × ℕ). (input_at m c.0, c.1)) o → HasChoice m o (Some choice)
    by None e = absurd (cc)
    by (Some c) e =
        let mine : IsChoiceFor cycle.0.problem cycle.1 choice = record { fits = fits; allowed = allowed } in
        let problem : cycle.0.problem ≡ problem_at m c.0 = ap (λ (o : Option (CycleInput × ℕ)). (unwrap_or o cycle).0.problem) e ∙ input_problem m c.0 in
        let budget : cycle.1 ≡ c.1 = ap (λ (o : Option (CycleInput × ℕ)). (unwrap_or o cycle).1) e in
        subst (λ b. IsChoiceFor (problem_at m c.0) b choice) budget (subst (λ (p : Clearing). IsChoiceFor p cycle.1 choice) problem mine)
