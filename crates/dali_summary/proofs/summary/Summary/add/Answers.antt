use Rattle.std.proofs.Common.{◌∙◌, ap}
use Rattle.dali_summary.specs.Tally.{is_refusal, cycle_of}
use Rattle.dali_summary.proofs.Tallies.{cycle_more, refusal_more, other_more}
use Rattle.dali_summary.proofs.Texts.{on_ok}
use Rattle.dali_summary.proofs.summary.Summary.add.Goals as goal

pub returns-in-Cycle-clause-added : goal.returns-in-Cycle-clause-added
returns-in-Cycle-clause-added c answers is =
    on_ok c.add_cycle.result (λ kept. kept ∙ cycle_more answers c.args.number c.args.outcome.now c.in-Cycle.report c.args.self.now c.in-Cycle.is is) c.add_cycle.ensures.ok

pub returns-in-No-clause-added : goal.returns-in-No-clause-added
returns-in-No-clause-added c answers is =
    c.add_refusal.ensures ∙ refusal_more answers c.args.number c.args.outcome.now c.in-No.code c.args.self.now c.in-No.is is

pub returns-in-Done-clause-added : goal.returns-in-Done-clause-added
returns-in-Done-clause-added c answers is =
    c.add_other.ensures ∙ other_more answers c.args.number c.args.outcome.now c.args.self.now (ap is_refusal c.in-Done.is) (ap (cycle_of c.args.number) c.in-Done.is) is

pub returns-in-Queue-clause-added : goal.returns-in-Queue-clause-added
returns-in-Queue-clause-added c answers is =
    c.add_other-in-Queue.ensures ∙ other_more answers c.args.number c.args.outcome.now c.args.self.now (ap is_refusal c.in-Queue.is) (ap (cycle_of c.args.number) c.in-Queue.is) is

pub returns-in-Stat-clause-added : goal.returns-in-Stat-clause-added
returns-in-Stat-clause-added c answers is =
    c.add_other-in-Stat.ensures ∙ other_more answers c.args.number c.args.outcome.now c.args.self.now (ap is_refusal c.in-Stat.is) (ap (cycle_of c.args.number) c.in-Stat.is) is

pub returns-in-Ledger-clause-added : goal.returns-in-Ledger-clause-added
returns-in-Ledger-clause-added c answers is =
    c.add_other-in-Ledger.ensures ∙ other_more answers c.args.number c.args.outcome.now c.args.self.now (ap is_refusal c.in-Ledger.is) (ap (cycle_of c.args.number) c.in-Ledger.is) is
