use Rattle.std.specs.Prelude.{◌≡◌, ℕ, ◌+◌, ◌<◌, ◌≤◌, ◌^◌, ◌==◌, List, length, map, Option, Some, None, if◌then◌else◌}
use Rattle.dali_base.specs.Limits.{most_budget}
use Rattle.dali_account.specs.declared.net.Move.{Move}
use Rattle.dali_account.specs.Net.{with_net}
use Rattle.dali_check.specs.Allowed.{Allowed}
use Rattle.dali_check.specs.Best.{Best}
use Rattle.dali_check.specs.Parts.{bound_of, branchings_of}
use Rattle.dali_ledger.specs.Postings.{posted}
use Rattle.dali_line.specs.declared.command.Verb.{Verb}
use Rattle.dali_line.specs.declared.command.Verb.TheVariants.{Cycle}
use Rattle.dali_problem.specs.Clearing.{Clearing}
use Rattle.dali_problem.specs.Feasible.{value_of}
use Rattle.dali_problem.specs.Limits.{IsProblem}
use Rattle.dali_queue.specs.declared.cycle.CycleInput.{CycleInput}
use Rattle.dali_queue.specs.CycleProblem.{problem_of, input_of, chosen_of}
use Rattle.dali_queue.specs.NetOf.{items_at, net_of}
use Rattle.dali_queue.specs.Queue.{removed}
use Rattle.dali_tree.specs.declared.choice.Choice.{Choice}
use Rattle.dali_tree.specs.Fits.{Fits}
use Rattle.dali_machine.specs.Machine.{Machine}
use Rattle.dali_machine.specs.Named.{HasNames}
use Rattle.dali_machine.specs.declared.judged.Judged.{Judged}
use Rattle.dali_machine.specs.declared.judged.Judged.TheVariants as judgements
use Rattle.dali_machine.specs.declared.report.CycleMark.{CycleMark}
use Rattle.dali_machine.specs.declared.report.CycleMark.TheVariants.{Optimal, Unfinished}
use Rattle.dali_machine.specs.declared.report.CycleReport.{CycleReport}

-- the problem of a cycle at this moment, and where its items come from
abbrev pub input_at : Machine → ℕ → CycleInput
input_at m t = input_of m.book m.queue t

abbrev pub problem_at : Machine → ℕ → Clearing
problem_at m t = problem_of m.book m.queue t

-- the queue places of the instructions in a set of items, rising
abbrev pub places_in : Machine → ℕ → List ℕ → List ℕ
places_in m t set = chosen_of set (input_at m t).at (input_at m t).item

-- the net of a set of items: all effects of their instructions at once
abbrev pub net_of_set : Machine → ℕ → List ℕ → List Move
net_of_set m t set = net_of (items_at m.queue.waiting (places_in m t set))

-- the state after a net is booked at once, with a posting of this command for each of its moves, and the instructions at
-- these places are taken out of the queue
abbrev pub with_set : Machine → List Move → List ℕ → Machine
with_set m net places = record m {
  book = record m.book { balances = with_net m.book.balances net };
  queue = record m.queue { waiting = removed m.queue.waiting places };
  postings = posted m.postings m.commands net;
}

-- the state after the set of a choice is booked at its own moment, the greatest one so far
unfoldable pub cycled : Machine → Choice → Machine
cycled m choice = with_set m (net_of_set m m.greatest choice.places) (places_in m m.greatest choice.places)

abbrev pub mark_of : ℕ → ℕ → CycleMark
mark_of value bound = if value == bound then Optimal else Unfinished

-- what a cycle answers of a problem: its count is that of the settled instructions, whose ids stand in queue order
abbrev pub report_on : Clearing → List (List ℕ) → ℕ → Choice → CycleReport
report_on p ids budget choice = record {
  mark = mark_of (value_of p choice.places) (bound_of choice.parts);
  value = value_of p choice.places;
  count = length ids;
  bound = bound_of choice.parts;
  branchings = branchings_of choice.parts;
  ids = ids;
  problem = p;
  budget = budget;
  choice = choice;
}

-- the ids of the instructions at these places
abbrev pub ids_at : Machine → List ℕ → List (List ℕ)
ids_at m places = map (λ i. i.id) (items_at m.queue.waiting places)

-- what a cycle of this state answers at a moment
unfoldable pub report_of : Machine → ℕ → ℕ → Choice → CycleReport
report_of m t budget choice = report_on (problem_at m t) (ids_at m (places_in m t choice.places)) budget choice

-- the budget and the choice of a cycle
pub record Cycling : Type 0 where
  pub budget : ℕ
  pub choice : Choice

-- the moment and the budget of an accepted CYCLE
abbrev pub accepted_cycle : Judged → Option (ℕ × ℕ)
accepted_cycle (judgements.Yes t (Cycle budget)) = Some (t, budget)
accepted_cycle _ = None

-- only an accepted CYCLE has use of a choice
abbrev pub cycling : Option (ℕ × ℕ) → Option Choice → Option Cycling
cycling (Some c) (Some choice) = Some (record { budget = c.1; choice = choice })
cycling (Some c) None = None
cycling None choice = None

-- the choice fits the problem, and is allowed for it and the budget
pub record IsChoiceFor (p : Clearing) (budget : ℕ) (choice : Choice) : Type 0 where
  pub fits : Fits (length p.items) (length p.lines) choice
  pub allowed : Allowed p budget choice

-- a choice is there exactly where a CYCLE is accepted, and then it fits and is allowed for the problem of its moment
abbrev pub HasChoice : Machine → Option (ℕ × ℕ) → Option Choice → Type 0
HasChoice m (Some c) (Some choice) = IsChoiceFor (problem_at m c.0) c.1 choice
HasChoice m (Some c) None = ⊥
HasChoice m None (Some choice) = ⊥
HasChoice m None None = Unit {0}

-- a mark is true of a problem: OPTIMAL of a set than which no feasible one is worth more, UNFINISHED of trees that have
-- exactly the budget's branches, too few for every set of places
pub record IsTrueMark (p : Clearing) (report : CycleReport) : Type 0 where
  pub optimal : report.mark ≡ Optimal → Best p report.choice.places
  pub spent : report.mark ≡ Unfinished → report.branchings ≡ report.budget
  pub few : report.mark ≡ Unfinished → report.budget + 1 < 2 ^ length p.items

-- a report is true: its choice fits its problem and is allowed for it and the budget, and its mark is true
pub record IsTrueReport (report : CycleReport) : Type 0 where
  pub chosen : IsChoiceFor report.problem report.budget report.choice
  pub budget : report.budget ≤ most_budget
  pub mark : IsTrueMark report.problem report

-- what every report that a machine makes is: true, and of a problem within the limits that calls everything by a name, so
-- that it has a block
pub record IsMadeReport (report : CycleReport) : Type 0 where
  pub tells : IsTrueReport report
  pub problem : IsProblem report.problem
  pub names : HasNames report.problem
