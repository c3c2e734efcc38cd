use Rattle.std.specs.List.{filter}
use Rattle.dali_base.specs.Readers.{same_bytes}
use Rattle.dali_account.specs.Pairs.{pairs_of}
use Rattle.dali_waiting.specs.Rows.{waiting_rows, held_ids}
use Rattle.dali_line.specs.declared.command.Verb.{Verb}
use Rattle.dali_line.specs.declared.command.Verb.TheVariants as verbs
use Rattle.dali_machine.specs.Cycles.{IsTrueReport, IsMadeReport}
use Rattle.dali_machine.specs.Machine.{Machine}
use Rattle.dali_machine.specs.declared.outcome.Code.{Code}
use Rattle.dali_machine.specs.declared.outcome.Outcome.{Outcome}
use Rattle.dali_machine.specs.declared.outcome.Outcome.TheVariants.{Done, No, Cycle, Queue, Stat, Ledger}

abbrev pub refused : Code → Outcome
refused code = No code

-- what an accepted verb answers: rows for QUEUE, STAT and LEDGER, and Done for every other
abbrev pub answered : Machine → Verb → Outcome
answered m verbs.Queue = Queue (waiting_rows m.queue)
answered m (verbs.Stat account) = Stat (pairs_of m.book account) (held_ids m.queue account)
answered m (verbs.Ledger account) = Ledger (filter (λ p. same_bytes p.account account) m.postings)
answered m _ = Done

-- where a cycle is answered, its report is true
abbrev pub IsTrueOutcome : Outcome → Type 0
IsTrueOutcome (Cycle report) = IsTrueReport report
IsTrueOutcome _ = Unit {0}

-- where a machine answers a cycle, its report is true and has a block
abbrev pub IsReported : Outcome → Type 0
IsReported (Cycle report) = IsMadeReport report
IsReported _ = Unit {0}
