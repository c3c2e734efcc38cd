use Rattle.std.proofs.Common.{◌≡◌, ◌+◌, ◌<◌, ◌≤◌, ℕ, List, length, sym, ap, ◌∙◌, subst, arith}
use Rattle.std.specs.List.{All, AllPairs}
use Rattle.dali_problem.specs.Clearing.{Clearing}
use Rattle.dali_problem.specs.Limits.{IsProblem}
use Rattle.dali_queue.specs.CycleProblem.{chosen_of}
use Rattle.dali_queue.specs.NetOf.{items_at, net_of}
use Rattle.dali_queue.specs.declared.cycle.CycleInput.{CycleInput}
use Rattle.dali_machine.specs.Cycles.{IsChoiceFor, IsMadeReport, ids_at, input_at, places_in, problem_at, report_of, report_on}
use Rattle.dali_machine.specs.Machine.{Machine, StateRecord}
use Rattle.dali_machine.specs.Ready.{CanCommit, IsMadeReady}
use Rattle.dali_machine.specs.StateKept.{machine_of}
use Rattle.dali_machine.specs.declared.outcome.Outcome.TheVariants as outcomes
use Rattle.dali_machine.proofs.Cycling.{ids_few, input_sizes, input_problem, report_is, set_rises, set_within}
use Rattle.dali_machine.proofs.Choosing.{choice_places, choice_bound, choice_branches, true_mark}
use Rattle.dali_machine.proofs.MadeReady.{cycle_can}
use Rattle.dali_machine.proofs.state.State.make_cycle_ready.Goals as goal

pub chosen_places-requires : goal.chosen_places-requires
chosen_places-requires c =
    let is : c.in_ok-input.input ≡ input_at (machine_of c.self.inside) c.args.moment = c.in_ok-input.ensures in
    ap (λ (i : CycleInput). length i.item) is ∙ input_sizes (machine_of c.self.inside) c.args.moment ∙ sym (ap (λ (i : CycleInput). length i.at) is)

pub net-requires-clause-rising : goal.net-requires-clause-rising
net-requires-clause-rising c =
    let is : c.in_ok-input.input ≡ input_at (machine_of c.self.inside) c.args.moment = c.in_ok-input.ensures in
    let places : c.in_ok-places.places ≡ places_in (machine_of c.self.inside) c.args.moment c.args.choice.places =
    c.in_ok-places.ensures ∙ ap (λ s. chosen_of s c.in_ok-input.input.at c.in_ok-input.input.item) c.as_slice.ensures ∙ ap (λ (i : CycleInput). chosen_of c.args.choice.places i.at i.item) is in
    subst (AllPairs (λ i j. i < j)) (sym places) (set_rises (machine_of c.self.inside) c.args.moment c.args.choice.places)

pub net-requires-clause-in_range : goal.net-requires-clause-in_range
net-requires-clause-in_range c =
    let is : c.in_ok-input.input ≡ input_at (machine_of c.self.inside) c.args.moment = c.in_ok-input.ensures in
    let places : c.in_ok-places.places ≡ places_in (machine_of c.self.inside) c.args.moment c.args.choice.places =
    c.in_ok-places.ensures ∙ ap (λ s. chosen_of s c.in_ok-input.input.at c.in_ok-input.input.item) c.as_slice.ensures ∙ ap (λ (i : CycleInput). chosen_of c.args.choice.places i.at i.item) is in
    subst (All (λ p. p < length c.self.inside.queue.queue.waiting)) (sym places) (set_within (machine_of c.self.inside) c.args.moment c.args.choice.places)

pub report_on-report-requires-clause-places : goal.report_on-report-requires-clause-places
report_on-report-requires-clause-places c =
    let is : c.in_ok-input.input.problem ≡ problem_at c.args.self.now.machine c.args.moment =
    ap (λ (i : CycleInput). i.problem) c.in_ok-input.ensures ∙ input_problem (machine_of c.self.inside) c.args.moment ∙ ap (λ (s : StateRecord). problem_at s.machine c.args.moment) c.self.view_is in
    choice_places c.in_ok-input.input.problem c.args.budget c.args.choice c.items-items.ensures.bounds (subst (λ p. IsChoiceFor p c.args.budget c.args.choice) (sym is) c.requires.choice)

pub report_on-report-requires-clause-bound : goal.report_on-report-requires-clause-bound
report_on-report-requires-clause-bound c =
    let is : c.in_ok-input.input.problem ≡ problem_at c.args.self.now.machine c.args.moment =
    ap (λ (i : CycleInput). i.problem) c.in_ok-input.ensures ∙ input_problem (machine_of c.self.inside) c.args.moment ∙ ap (λ (s : StateRecord). problem_at s.machine c.args.moment) c.self.view_is in
    choice_bound c.in_ok-input.input.problem c.args.budget c.args.choice c.items-items.ensures.bounds (subst (λ p. IsChoiceFor p c.args.budget c.args.choice) (sym is) c.requires.choice)

pub report_on-report-requires-clause-branches : goal.report_on-report-requires-clause-branches
report_on-report-requires-clause-branches c =
    let is : c.in_ok-input.input.problem ≡ problem_at c.args.self.now.machine c.args.moment =
    ap (λ (i : CycleInput). i.problem) c.in_ok-input.ensures ∙ input_problem (machine_of c.self.inside) c.args.moment ∙ ap (λ (s : StateRecord). problem_at s.machine c.args.moment) c.self.view_is in
    let within = choice_branches c.in_ok-input.input.problem c.args.budget c.args.choice c.items-items.ensures.bounds (subst (λ p. IsChoiceFor p c.args.budget c.args.choice) (sym is) c.requires.choice) in
    let few = c.requires.budget in
    omega (arith, within, few)

pub report_on-report-requires-clause-ids : goal.report_on-report-requires-clause-ids
report_on-report-requires-clause-ids c =
    let is : c.in_ok-input.input ≡ input_at (machine_of c.self.inside) c.args.moment = c.in_ok-input.ensures in
    let places : c.in_ok-places.places ≡ places_in (machine_of c.self.inside) c.args.moment c.args.choice.places =
    c.in_ok-places.ensures ∙ ap (λ s. chosen_of s c.in_ok-input.input.at c.in_ok-input.input.item) c.as_slice.ensures ∙ ap (λ (i : CycleInput). chosen_of c.args.choice.places i.at i.item) is in
    let ids : c.in_ok-ids.ids ≡ ids_at (machine_of c.self.inside) (places_in (machine_of c.self.inside) c.args.moment c.args.choice.places) =
    c.in_ok-ids.ensures ∙ ap (λ m. ids_at m c.in_ok-places.places) (c.make_room.ensures.machine ∙ sym (ap (λ (s : StateRecord). s.machine) c.self.view_is)) ∙ ap (ids_at (machine_of c.self.inside)) places in
    subst (λ (xs : List (List ℕ)). length xs < 4294967296) (sym ids) (ids_few (machine_of c.self.inside) c.args.moment c.args.choice.places c.len-waiting.ensures.queue.few)

pub new-requires-clause-reported : goal.new-requires-clause-reported
new-requires-clause-reported c =
    let is : c.in_ok-input.input.problem ≡ problem_at c.args.self.now.machine c.args.moment =
    ap (λ (i : CycleInput). i.problem) c.in_ok-input.ensures ∙ input_problem (machine_of c.self.inside) c.args.moment ∙ ap (λ (s : StateRecord). problem_at s.machine c.args.moment) c.self.view_is in
    let chosen : IsChoiceFor c.in_ok-input.input.problem c.args.budget c.args.choice = subst (λ p. IsChoiceFor p c.args.budget c.args.choice) (sym is) c.requires.choice in
    subst IsMadeReport (sym c.report_on-report.ensures) (record {
      tells = record {
        chosen = chosen;
        budget = c.requires.budget;
        mark = true_mark c.in_ok-input.input.problem c.args.budget c.args.choice c.items-items.ensures.bounds chosen c.in_ok-ids.ids;
      };
      problem = c.items-items.ensures.bounds;
      names = c.see_names.ensures;
    })

pub returns-clause-made : goal.returns-clause-made
returns-clause-made c =
    let m : Machine = machine_of c.self.inside in
    let is : c.in_ok-input.input ≡ input_at m c.args.moment = c.in_ok-input.ensures in
    let places : c.in_ok-places.places ≡ places_in m c.args.moment c.args.choice.places =
    c.in_ok-places.ensures ∙ ap (λ s. chosen_of s c.in_ok-input.input.at c.in_ok-input.input.item) c.as_slice.ensures ∙ ap (λ (i : CycleInput). chosen_of c.args.choice.places i.at i.item) is in
    let ids : c.in_ok-ids.ids ≡ ids_at m (places_in m c.args.moment c.args.choice.places) =
    c.in_ok-ids.ensures ∙ ap (λ n. ids_at n c.in_ok-places.places) (c.make_room.ensures.machine ∙ sym (ap (λ (s : StateRecord). s.machine) c.self.view_is)) ∙ ap (ids_at m) places in
    let report : c.report_on-report.result ≡ report_of m c.args.moment c.args.budget c.args.choice =
    c.report_on-report.ensures ∙ ap (λ p. report_on p c.in_ok-ids.ids c.args.budget c.args.choice) (ap (λ (i : CycleInput). i.problem) is ∙ input_problem m c.args.moment)
    ∙ ap (λ xs. report_on (problem_at m c.args.moment) xs c.args.budget c.args.choice) ids ∙ report_is m c.args.moment c.args.budget c.args.choice in
    record {
      judged = ap (λ r. r.judged) c.new.ensures;
      outcome = ap (λ r. r.outcome) c.new.ensures ∙ ap outcomes.Cycle report ∙ ap (λ (s : StateRecord). outcomes.Cycle (report_of s.machine c.args.moment c.args.budget c.args.choice)) c.self.view_is;
      number = ap (λ r. r.number) c.new.ensures ∙ ap (λ (s : StateRecord). s.machine.commands + 1) c.self-2.view_is ∙ ap (λ (n : Machine). n.commands + 1) c.make_room.ensures.machine;
    }

pub returns-clause-room : goal.returns-clause-room
returns-clause-room c =
    let m : Machine = machine_of c.self.inside in
    let is : c.in_ok-input.input ≡ input_at m c.args.moment = c.in_ok-input.ensures in
    let places : c.in_ok-places.places ≡ places_in m c.args.moment c.args.choice.places =
    c.in_ok-places.ensures ∙ ap (λ s. chosen_of s c.in_ok-input.input.at c.in_ok-input.input.item) c.as_slice.ensures ∙ ap (λ (i : CycleInput). chosen_of c.args.choice.places i.at i.item) is in
    let same : c.make_room.new.self.machine ≡ m = c.make_room.ensures.machine ∙ sym (ap (λ (s : StateRecord). s.machine) c.self.view_is) in
    subst (CanCommit c.make_room.new.self) (sym c.new.ensures)
    (cycle_can c.make_room.new.self c.args.moment c.args.budget _ c.args.choice c.report_on-report.result c.in_ok-net.net c.in_ok-places.places
    (ap (λ (s : StateRecord). s.machine.commands + 1) c.self-2.view_is) c.requires.budget (ap (λ r. r.budget) c.report_on-report.ensures) (ap (λ r. r.choice) c.report_on-report.ensures)
    (c.in_ok-net.ensures.items ∙ ap (λ ps. net_of (items_at c.self.inside.queue.queue.waiting ps)) places ∙ ap (λ (n : Machine). net_of (items_at n.queue.waiting (places_in n c.args.moment c.args.choice.places))) (sym same))
    (places ∙ ap (λ n. places_in n c.args.moment c.args.choice.places) (sym same))
    c.in_ok-make_room.ensures.room
    (subst (λ n. IsChoiceFor (problem_at n c.args.moment) c.args.budget c.args.choice) (sym (same ∙ ap (λ (s : StateRecord). s.machine) c.self.view_is)) c.requires.choice))
