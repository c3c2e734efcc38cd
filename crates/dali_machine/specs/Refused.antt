use Rattle.std.specs.Prelude.{◌≡◌, ◌+◌, Bool, true, false, not, IsTrue, Option, Some, None}
use Rattle.dali_machine.specs.Machine.{Machine}
use Rattle.dali_machine.specs.declared.outcome.Code.{Code}
use Rattle.dali_machine.specs.declared.outcome.Code.TheVariants.{Form, Back}
use Rattle.dali_machine.specs.declared.outcome.Outcome.{Outcome}
use Rattle.dali_machine.specs.declared.outcome.Outcome.TheVariants as outcomes
use Rattle.dali_machine.specs.declared.judged.Judged.{Judged}
use Rattle.dali_machine.specs.declared.judged.Judged.TheVariants as judgements

-- a refusal leaves the book, the queue with its cut-offs and the ids ever accepted, and the postings as they were, and
-- the day as open or closed as it was. The command is counted, and the greatest moment may rise; where the line is no
-- command, or is back, that stays too.
pub record LeavesAll (code : Code) (old new : Machine) : Type 0 where
  pub book : new.book ≡ old.book
  pub queue : new.queue ≡ old.queue
  pub postings : new.postings ≡ old.postings
  pub closed : new.closed ≡ old.closed
  pub form : code ≡ Form → new.greatest ≡ old.greatest
  pub back : code ≡ Back → new.greatest ≡ old.greatest
  pub commands : new.commands ≡ old.commands + 1

-- the code that a refusal has
abbrev pub code_of : Outcome → Option Code
code_of (outcomes.No code) = Some code
code_of _ = None

-- the code with which a judged line is refused
abbrev pub refused_with : Judged → Option Code
refused_with judgements.Form = Some Form
refused_with judgements.Back = Some Back
refused_with (judgements.No t code) = Some code
refused_with (judgements.Yes t verb) = None

-- a code that leaves the greatest moment
abbrev pub is_early : Code → Bool
is_early Form = true
is_early Back = true
is_early _ = false

-- a line that is refused by its verb or since the day is closed isn't told that it is no command, or back
abbrev pub is_told_apart : Judged → Bool
is_told_apart (judgements.No t code) = not (is_early code)
is_told_apart _ = true

-- what is answered to a judged line is a refusal exactly where the line is refused, and with its code
pub record IsAnswered (judged : Judged) (outcome : Outcome) : Type 0 where
  pub code : code_of outcome ≡ refused_with judged
  pub apart : IsTrue (is_told_apart judged)
