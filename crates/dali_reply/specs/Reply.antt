use Rattle.std.specs.Prelude.{ℕ, ◌≤◌, List, [], ◌∷◌, ◌++◌, length, codes, decimal}
use Rattle.std.specs.Fmt.{signed_decimal}
use Rattle.std.specs.List.{flat_map}
use Rattle.dali_account.specs.declared.pairs.Pair.{Pair}
use Rattle.dali_base.specs.Limits.{most_budget}
use Rattle.dali_ledger.specs.declared.posting.Posting.{Posting}
use Rattle.dali_waiting.specs.declared.rows.WaitRow.{WaitRow}
use Rattle.dali_waiting.specs.RowText.{row_text}
use Rattle.dali_line.specs.Grammar.{kind_text}
use Rattle.dali_machine.specs.declared.outcome.Code.{Code}
use Rattle.dali_machine.specs.declared.outcome.Code.TheVariants.{Form, Back, Closed, There, Full, Name, Total, Short, Cash, SelfDeal, Late, Value, Gone, Linked}
use Rattle.dali_machine.specs.declared.outcome.Outcome.{Outcome}
use Rattle.dali_machine.specs.declared.report.CycleMark.{CycleMark}
use Rattle.dali_machine.specs.declared.report.CycleMark.TheVariants.{Optimal, Unfinished}
use Rattle.dali_machine.specs.declared.report.CycleReport.{CycleReport}
use Rattle.dali_cert_print.specs.Block.{block_text}
use Rattle.dali_tree.specs.Fits.{Fits}
use Rattle.dali_machine.specs.declared.outcome.Outcome.TheVariants.{Done, No, Cycle, Queue, Stat, Ledger}

-- A reply is one line or more. Each is a row of text, fields joined by commas and ended by LF: the number k of the
-- command, the line's word, and that word's fields.

-- the word that a refusal prints
abbrev pub code_text : Code → List ℕ
code_text Form = codes "FORM"
code_text Back = codes "BACK"
code_text Closed = codes "CLOSED"
code_text There = codes "THERE"
code_text Full = codes "FULL"
code_text Name = codes "NAME"
code_text Total = codes "TOTAL"
code_text Short = codes "SHORT"
code_text Cash = codes "CASH"
code_text SelfDeal = codes "SELF"
code_text Late = codes "LATE"
code_text Value = codes "VALUE"
code_text Gone = codes "GONE"
code_text Linked = codes "LINKED"

-- an accepted command that prints no rows
abbrev pub ok_line : ℕ → List ℕ
ok_line k = row_text (decimal k ∷ codes "OK" ∷ [])

-- a refusal
abbrev pub no_line : ℕ → Code → List ℕ
no_line k code = row_text (decimal k ∷ codes "NO" ∷ code_text code ∷ [])

-- the last line of a reply that has rows
abbrev pub end_line : ℕ → List ℕ
end_line k = row_text (decimal k ∷ codes "END" ∷ [])

-- a queued instruction
abbrev pub wait_line : ℕ → WaitRow → List ℕ
wait_line k row = row_text (decimal k ∷ codes "WAIT" ∷ row.id ∷ kind_text row.kind ∷ decimal row.value ∷ [])

-- a balance
abbrev pub balance_line : ℕ → Pair → List ℕ
balance_line k pair = row_text (decimal k ∷ codes "BAL" ∷ pair.asset ∷ decimal pair.balance ∷ [])

-- a queued instruction of which an account is a party
abbrev pub held_line : ℕ → List ℕ → List ℕ
held_line k id = row_text (decimal k ∷ codes "HELD" ∷ id ∷ [])

-- a posting of an account
abbrev pub posting_line : ℕ → Posting → List ℕ
posting_line k p = row_text (decimal k ∷ codes "ROW" ∷ decimal p.number ∷ decimal p.command ∷ p.asset ∷ signed_decimal p.delta ∷ decimal p.after ∷ [])

-- how good the set of a cycle is known to be
abbrev pub mark_text : CycleMark → List ℕ
mark_text Optimal = codes "OPTIMAL"
mark_text Unfinished = codes "UNFINISHED"

-- the first line of a cycle: its mark, value, count, bound and branchings
abbrev pub cycle_line : ℕ → CycleReport → List ℕ
cycle_line k r = row_text (decimal k ∷ codes "CYCLE" ∷ mark_text r.mark ∷ decimal r.value ∷ decimal r.count ∷ decimal r.bound ∷ decimal r.branchings ∷ [])

-- a settled instruction
abbrev pub post_line : ℕ → List ℕ → List ℕ
post_line k id = row_text (decimal k ∷ codes "POST" ∷ id ∷ [])

-- the reply to command number k, which had this outcome
abbrev pub reply_text : ℕ → Outcome → List ℕ
reply_text k Done = ok_line k
reply_text k (No code) = no_line k code
reply_text k (Cycle report) = cycle_line k report ++ flat_map (post_line k) report.ids ++ block_text report.problem report.budget report.choice ++ end_line k
reply_text k (Queue rows) = flat_map (wait_line k) rows ++ end_line k
reply_text k (Stat pairs ids) = flat_map (balance_line k) pairs ++ flat_map (held_line k) ids ++ end_line k
reply_text k (Ledger rows) = flat_map (posting_line k) rows ++ end_line k

-- what of an outcome has a text: in a cycle's report the choice fits the problem, and the budget is within its limit
pub record HasBlock (report : CycleReport) : Type 0 where
  pub fits : Fits (length report.problem.items) (length report.problem.lines) report.choice
  pub budget : report.budget ≤ most_budget

abbrev pub HasText : Outcome → Type 0
HasText (Cycle report) = HasBlock report
HasText _ = Unit {0}
