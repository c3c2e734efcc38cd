use Rattle.std.specs.Prelude.{◌≡◌, ℕ, List, length}
use Rattle.dali_entry.specs.EntryRecord.{EntryRecord}
use Rattle.dali_machine.specs.History.{state_of}
use Rattle.dali_summary.specs.Tally.{tally_of}
use Rattle.dali_trial.specs.Tried.{IsTried, answers_of}
use Rattle.dali_trial.specs.declared.course.Course.{Course}

-- a trial has taken these lines: its state is that of a history of them, and its summary counts what is answered to it
pub record HasTaken (lines : List (List ℕ)) (course : Course) : Type 0 where
  pub history : List EntryRecord
  pub tried : IsTried lines history
  pub machine : course.state.machine ≡ state_of history
  pub tally : course.summary ≡ tally_of (answers_of history)
  pub taken : course.state.machine.commands ≡ length lines
  pub answered : course.summary.commands ≡ length lines
