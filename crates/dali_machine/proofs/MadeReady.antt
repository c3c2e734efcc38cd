use Rattle.std.proofs.Common.{◌≡◌, ℕ, ◌+◌, ◌≤◌, pos, ◌+ℤ◌, ◌≤ℤ◌, List, Some, None, refl, sym, ap, ◌∙◌, subst, arith}
use Rattle.std.specs.List.{All}
use Rattle.dali_account.specs.declared.net.Move.{Move}
use Rattle.dali_account.specs.Net.{pair_of}
use Rattle.dali_account.specs.Units.{units_of}
use Rattle.dali_line.specs.declared.command.Verb.TheVariants.{Cycle}
use Rattle.dali_tree.specs.declared.choice.Choice.{Choice}
use Rattle.dali_machine.specs.Machine.{Machine, StateRecord}
use Rattle.dali_machine.specs.Cycles.{Cycling, IsChoiceFor, net_of_set, places_in, problem_at}
use Rattle.dali_machine.specs.Ready.{ReadyRecord, CanCommit, HasRoomFor, cycle_in}
use Rattle.dali_machine.specs.Refusals.{refusal}
use Rattle.dali_machine.specs.declared.judged.Judged.TheVariants as judgements
use Rattle.dali_machine.specs.declared.outcome.Outcome.TheVariants as outcomes
use Rattle.dali_machine.specs.declared.report.CycleReport.{CycleReport}
use Rattle.dali_machine.proofs.Choosing.{choice_covered}

free : (m : Machine) (t budget : ℕ) → refusal m t (Cycle budget) ≡ None
unfolding refusal
free m t budget = refl

-- a cycle that was made ready may be committed
pub cycle_can : (s : StateRecord) (t budget number : ℕ) (choice : Choice) (report : CycleReport) (net : List Move) (places : List ℕ) →
    number ≡ s.machine.commands + 1 → budget ≤ 4096 → report.budget ≡ budget → report.choice ≡ choice → net ≡ net_of_set s.machine t choice.places → places ≡ places_in s.machine t choice.places →
    HasRoomFor s (judgements.Yes t (Cycle budget)) net → IsChoiceFor (problem_at s.machine t) budget choice →
    CanCommit s (record { judged = judgements.Yes t (Cycle budget); outcome = outcomes.Cycle report; number = number; net = net; places = places })
cycle_can s t budget number choice report net places counted few paid chosen net_is places_are room allowed = record {
  number = counted;
  allowed = free s.machine t budget;
  fields = record { least = omega arith; most = few };
  net = net_is ∙ ap (λ (c : Choice). net_of_set s.machine t c.places) (sym chosen);
  room = room;
  cycle = record {
    moment = t;
    judged = ap (λ b. judgements.Yes t (Cycle b)) (sym paid);
    places = places_are ∙ ap (λ (c : Choice). places_in s.machine t c.places) (sym chosen);
    covered = subst (λ (ms : List Move). All (λ (x : Move). pos 0 ≤ℤ (pos (units_of s.machine.book.balances (pair_of x)) +ℤ x.delta)) ms) (sym net_is) (choice_covered s.machine t budget choice allowed);
  };
}
