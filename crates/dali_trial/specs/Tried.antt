use Rattle.std.specs.Prelude.{◌≡◌, ℕ, ◌+◌, ◌*◌, List, [], ◌∷◌, length}
use Rattle.std.specs.List.{All}
use Rattle.dali_entry.specs.EntryRecord.{EntryRecord}
use Rattle.dali_gen.specs.Day.{generated}
use Rattle.dali_line.specs.Commands.{commands}
use Rattle.dali_machine.specs.History.{IsLegal, after_entry, state_of}
use Rattle.dali_machine.specs.Machine.{Machine, opening}
use Rattle.dali_machine.specs.Step.{step}
use Rattle.dali_recover.specs.Reported.{AreReported}
use Rattle.dali_register.specs.Added.{HaveFinest}
use Rattle.dali_register.specs.TextOf.{lines_of}
use Rattle.dali_summary.specs.Summary.{summary_text}
use Rattle.dali_summary.specs.Tally.{Answer}

-- the edition of each entry of a trial
abbrev pub trial_edition : ℕ
trial_edition = 1

-- what is answered to an entry in a state, with the number of its command
abbrev pub answer_in : Machine → EntryRecord → Answer
answer_in m e = record { number = m.commands + 1; outcome = (step e.edition m e.line e.choice).outcome }

-- what is answered to these entries, one after the other
abbrev pub answers : Machine → List EntryRecord → List Answer
answers m [] = []
answers m (e ∷ es) = answer_in m e ∷ answers (after_entry m e) es

-- what is answered to a history
abbrev pub answers_of : List EntryRecord → List Answer
answers_of history = answers opening history

-- the summary of a history in the trial of the number n: of what is answered to it, and of its state's queue and postings
abbrev pub summary_of : ℕ → List EntryRecord → List ℕ
summary_of n history = summary_text n (answers_of history) (length (state_of history).queue.waiting) (length (state_of history).postings)

-- a legal history of these lines in edition 1: the parts of each choice are exactly the finest ones of its cycle's problem,
-- and what is answered to each entry is true
pub record IsTried (lines : List (List ℕ)) (history : List EntryRecord) : Type 0 where
  pub lines_are : lines_of history ≡ lines
  pub editions : All (λ (e : EntryRecord). e.edition ≡ trial_edition) history
  pub legal : IsLegal history
  pub finest : HaveFinest opening history
  pub reported : AreReported opening history

-- What a trial of the number n is: this text is the summary of such a history, whose lines are exactly the commands of the
-- generated file.
pub record TrialRun (n : ℕ) (text : List ℕ) : Type 0 where
  pub history : List EntryRecord
  pub tried : IsTried (commands (generated n)) history
  pub count : length history ≡ 89 + 16 * n
  pub text_is : text ≡ summary_of n history
