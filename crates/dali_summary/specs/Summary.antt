use Rattle.std.specs.Prelude.{ℕ, List, [], ◌∷◌, ◌++◌, codes, decimal, length}
use Rattle.std.specs.List.{count_by, flat_map}
use Rattle.dali_waiting.specs.RowText.{row_text}
use Rattle.dali_reply.specs.Reply.{mark_text}
use Rattle.dali_machine.specs.declared.outcome.Outcome.{Outcome}
use Rattle.dali_machine.specs.declared.outcome.Outcome.TheVariants.{Cycle}
use Rattle.dali_machine.specs.declared.report.CycleReport.{CycleReport}
use Rattle.dali_summary.specs.Tally.{Answer, is_refusal}

-- A summary of answers is rows of text, fields joined by commas and ended by LF.

-- a row of a word and a number
abbrev pub number_row : List ℕ → ℕ → List ℕ
number_row word n = row_text (word ∷ decimal n ∷ [])

-- the row of the cycle that the command k did: its mark, value, count, bound and branchings
abbrev pub cycle_row : ℕ → CycleReport → List ℕ
cycle_row k r = row_text (codes "CYCLE" ∷ decimal k ∷ mark_text r.mark ∷ decimal r.value ∷ decimal r.count ∷ decimal r.bound ∷ decimal r.branchings ∷ [])

-- a command has a row where it did a cycle
abbrev pub row_of : ℕ → Outcome → List ℕ
row_of k (Cycle report) = cycle_row k report
row_of k _ = []

-- The summary of these answers in the trial of the number n: how many there are, how many of them refuse, the cycles in
-- order, and how many instructions wait and how many postings there are at the end.
unfoldable pub summary_text : ℕ → List Answer → ℕ → ℕ → List ℕ
summary_text n answers waiting postings =
    number_row (codes "TRIAL") n
    ++ number_row (codes "COMMANDS") (length answers)
    ++ number_row (codes "REFUSED") (count_by (λ (a : Answer). is_refusal a.outcome) answers)
    ++ flat_map (λ (a : Answer). row_of a.number a.outcome) answers
    ++ number_row (codes "WAITING") waiting
    ++ number_row (codes "POSTINGS") postings
