use Rattle.dali_machine.specs.Outcomes.{IsReported}
use Rattle.dali_machine.specs.declared.outcome.Outcome.{Outcome}
use Rattle.dali_machine.specs.declared.outcome.Outcome.TheVariants.{Done, No, Cycle, Queue, Stat, Ledger}
use Rattle.dali_reply.specs.Reply.{HasText}

-- what a machine answers has a text
pub reported_text : (o : Outcome) → IsReported o → HasText o
reported_text Done told = tt
reported_text (No code) told = tt
reported_text (Cycle report) told = record { fits = told.tells.chosen.fits; budget = told.tells.budget }
reported_text (Queue rows) told = tt
reported_text (Stat pairs ids) told = tt
reported_text (Ledger rows) told = tt
