use Rattle.std.proofs.Common.{ℕ, length, Some, sym, subst}
use Rattle.std.specs.Prelude.{map}
use Rattle.dali_check.specs.Allowed.{Allowed}
use Rattle.dali_machine.specs.Cycles.{HasChoice, IsChoiceFor, accepted_cycle}
use Rattle.dali_machine.specs.History.{HasItsChoice}
use Rattle.dali_machine.specs.Machine.{Machine}
use Rattle.dali_machine.specs.declared.judged.Judged.{Judged}
use Rattle.dali_parts.specs.Finest.{AreFinest}
use Rattle.dali_problem.specs.Clearing.{Clearing}
use Rattle.dali_register.specs.Added.{HasFinest}
use Rattle.dali_register.specs.Cycling.{AsksFor}
use Rattle.dali_tree.specs.Fits.{Fits}
use Rattle.dali_tree.specs.declared.choice.Choice.{Choice}
use Rattle.dali_tree.specs.declared.choice.Part.{Part}

-- a choice that fits the problem of an accepted CYCLE, and is allowed for it and the budget, is that of its entry
pub own_choice : (m : Machine) (j : Judged) (p : Clearing) (budget : ℕ) (choice : Choice) → AsksFor p budget m j → Fits (length p.items) (length p.lines) choice → Allowed p budget choice →
    HasItsChoice m j (Some choice)
own_choice m j p budget choice asks fits allowed = subst (λ o. HasChoice m o (Some choice)) (sym asks.accepted)
    (subst (λ q. IsChoiceFor q budget choice) asks.problem_is (record { fits = fits; allowed = allowed }))

-- and has the finest parts where they are those of the problem
pub own_parts : (m : Machine) (j : Judged) (p : Clearing) (budget : ℕ) (choice : Choice) → AsksFor p budget m j → AreFinest p (map (λ (part : Part). part.members) choice.parts) →
    HasFinest m (Some choice) (accepted_cycle j)
own_parts m j p budget choice asks finest = subst (λ o. HasFinest m (Some choice) o) (sym asks.accepted)
    (subst (λ q. AreFinest q (map (λ (part : Part). part.members) choice.parts)) asks.problem_is finest)
