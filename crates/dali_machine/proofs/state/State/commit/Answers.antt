use Rattle.std.proofs.Common.{◌≤◌, sym, ap, ◌∙◌, subst}
use Rattle.dali_machine.specs.Machine.{Machine}
use Rattle.dali_machine.specs.Ready.{cycle_in}
use Rattle.dali_machine.specs.Totals.{KeepsTotals}
use Rattle.dali_machine.proofs.Committing.{step_of_turn}
use Rattle.dali_machine.proofs.Counting.{turn_counted, turn_rises}
use Rattle.dali_machine.proofs.Totals.{turn_totals}
use Rattle.dali_machine.proofs.state.State.commit.Goals as goal

pub returns-clause-totals : goal.returns-clause-totals
returns-clause-totals c = subst (λ (m : Machine). KeepsTotals c.args.ready.judged c.args.self.now.machine.book m.book) (sym c.take_turn.ensures.next)
    (turn_totals c.args.self.now c.args.ready c.take_turn.ensures.kept c.requires)

pub returns-clause-step : goal.returns-clause-step
returns-clause-step c edition line choice made = c.take_turn.ensures.next ∙ step_of_turn c.args.self.now.machine edition line choice c.args.ready made

pub returns-clause-counted : goal.returns-clause-counted
returns-clause-counted c = ap (λ (m : Machine). m.commands) c.take_turn.ensures.next ∙ turn_counted c.args.self.now.machine c.args.ready.judged (cycle_in c.args.ready.outcome)

pub returns-clause-rises : goal.returns-clause-rises
returns-clause-rises c edition line choice made = subst (λ (m : Machine). c.args.self.now.machine.greatest ≤ m.greatest) (sym c.take_turn.ensures.next) (turn_rises c.args.self.now.machine edition line choice c.args.ready made)
