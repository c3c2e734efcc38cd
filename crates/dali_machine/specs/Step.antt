use Rattle.std.specs.Prelude.{ℕ, ◌+◌, ◌&&◌, Bool, true, false, not, List, Option, Some, None, nat_lt, if◌then◌else◌}
use Rattle.dali_tree.specs.declared.choice.Choice.{Choice}
use Rattle.dali_line.specs.Reading.{command_of}
use Rattle.dali_line.specs.declared.command.Command.{Command}
use Rattle.dali_line.specs.declared.command.Verb.{Verb}
use Rattle.dali_line.specs.declared.command.Verb.TheVariants.{Queue, Stat, Ledger}
use Rattle.dali_machine.specs.Machine.{Machine}
use Rattle.dali_machine.specs.Refusals.{refusal}
use Rattle.dali_machine.specs.Effects.{accepted}
use Rattle.dali_machine.specs.Cycles.{Cycling, cycled, report_of, accepted_cycle, cycling}
use Rattle.dali_machine.specs.declared.outcome.Code.{Code}
use Rattle.dali_machine.specs.declared.outcome.Code.TheVariants.{Form, Back, Closed}
use Rattle.dali_machine.specs.declared.outcome.Outcome.{Outcome}
use Rattle.dali_machine.specs.declared.outcome.Outcome.TheVariants as outcomes
use Rattle.dali_machine.specs.declared.judged.Judged.{Judged}
use Rattle.dali_machine.specs.declared.judged.Judged.TheVariants as judgements
use Rattle.dali_machine.specs.Outcomes.{refused, answered}

-- a verb that a closed day still takes
abbrev pub is_report : Verb → Bool
is_report Queue = true
is_report (Stat account) = true
is_report (Ledger account) = true
is_report _ = false

-- why the state refuses a command that isn't back
abbrev pub verdict : Machine → Command → Option Code
verdict m c = if m.closed && not (is_report c.verb) then Some Closed else refusal m c.moment c.verb

abbrev pub judged_by : Command → Option Code → Judged
judged_by c (Some code) = judgements.No c.moment code
judged_by c None = judgements.Yes c.moment c.verb

abbrev pub judged_command : Machine → Option Command → Judged
judged_command m None = judgements.Form
judged_command m (Some c) = if nat_lt c.moment m.greatest then judgements.Back else judged_by c (verdict m c)

-- what a state makes of a line in an edition
unfoldable pub judged : ℕ → Machine → List ℕ → Judged
judged edition m line = judged_command m (command_of edition line)

-- a state and what is answered
pub record Turn : Type 0 where
  pub next : Machine
  pub outcome : Outcome

abbrev pub one_command_more : Machine → Machine
one_command_more m = record m { commands = m.commands + 1 }

abbrev pub at_moment : Machine → ℕ → Machine
at_moment m t = record m { greatest = t }

-- what an accepted verb does: a cycle books its choice, judged at its own moment
abbrev pub taken : Machine → ℕ → Verb → Option Cycling → Turn
taken m t verb None = record { next = accepted (at_moment m t) verb; outcome = answered m verb }
taken m t verb (Some c) = record { next = cycled (at_moment m t) c.choice; outcome = outcomes.Cycle (report_of m t c.budget c.choice) }

-- a state with its commands counted, after a judgement: a line that is no command and one that is back change nothing
-- more, and any other refusal the greatest moment alone
abbrev pub turn : Machine → Judged → Option Cycling → Turn
turn m judgements.Form cycle = record { next = m; outcome = refused Form }
turn m judgements.Back cycle = record { next = m; outcome = refused Back }
turn m (judgements.No t code) cycle = record { next = at_moment m t; outcome = refused code }
turn m (judgements.Yes t verb) cycle = taken m t verb cycle

-- one command, with the choice of its cycle where it is an accepted one
unfoldable pub step : ℕ → Machine → List ℕ → Option Choice → Turn
step edition m line choice =
    let judgement = judged edition m line in
    turn (one_command_more m) judgement (cycling (accepted_cycle judgement) choice)
