use Rattle.std.specs.Prelude.{ℕ, ◌+◌, List, [], ◌∷◌, ◌++◌, map}
use Rattle.dali_entry.specs.EntryRecord.{EntryRecord}
use Rattle.dali_machine.specs.History.{after_entry}
use Rattle.dali_machine.specs.Machine.{Machine, opening}
use Rattle.dali_machine.specs.Step.{step}
use Rattle.dali_reply.specs.Reply.{reply_text}

-- the reply to an entry in a state
abbrev pub answer_to : Machine → EntryRecord → List ℕ
answer_to m e = reply_text (m.commands + 1) (step e.edition m e.line e.choice).outcome

-- the replies to these entries, one after the other
abbrev pub texts : Machine → List EntryRecord → List ℕ
texts m [] = []
texts m (e ∷ entries) = answer_to m e ++ texts (after_entry m e) entries

-- the text of a history
abbrev pub text_of : List EntryRecord → List ℕ
text_of history = texts opening history

-- the lines of a history
abbrev pub lines_of : List EntryRecord → List (List ℕ)
lines_of history = map (λ (e : EntryRecord). e.line) history
