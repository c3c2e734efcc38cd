use Rattle.std.proofs.Common.{◌≡◌, ℕ, ◌≤◌, Bool, true, false, cond, List, [], ◌∷◌, Option, Some, None, nat_lt, refl, sym, subst}
use Rattle.dali_base.specs.Limits.{most_budget}
use Rattle.dali_line.specs.Reading.{command_of}
use Rattle.dali_line.specs.declared.command.Command.{Command}
use Rattle.dali_line.specs.declared.command.Verb.TheVariants.{Cycle}
use Rattle.dali_line.proofs.Laws.{line_spelled}
use Rattle.dali_tree.specs.declared.choice.Choice.{Choice}
use Rattle.dali_entry.specs.EntryRecord.{EntryRecord}
use Rattle.dali_machine.specs.Machine.{Machine, opening}
use Rattle.dali_machine.specs.Cycles.{HasChoice, accepted_cycle, cycling}
use Rattle.dali_machine.specs.History.{IsNext, AreNext, IsLegal, after_entry}
use Rattle.dali_machine.specs.Outcomes.{IsTrueOutcome}
use Rattle.dali_machine.specs.Ready.{HasGoodFields}
use Rattle.dali_machine.specs.Step.{judged, judged_by, judged_command, step, turn, verdict}
use Rattle.dali_machine.specs.declared.judged.Judged.{Judged}
use Rattle.dali_machine.specs.declared.judged.Judged.TheVariants as judgements
use Rattle.dali_machine.specs.declared.outcome.Code.{Code}
use Rattle.dali_machine.proofs.Committing.{step_outcome, plain_reported, true_outcome, accepted_is}
use Rattle.dali_marks.specs.AreTrue.{AreTrue}
use Rattle.dali_marks.proofs.Marks.{true_report}

-- a line that is accepted has its fields in their ranges
judged_fields : (edition : ℕ) (m : Machine) (line : List ℕ) → HasGoodFields (judged edition m line)
unfolding judged
judged_fields edition m line = by (command_of edition line) refl
  where
    by : (o : Option Command) → command_of edition line ≡ o → HasGoodFields (judged_command m o)
    by None is = tt
    by (Some c) is = at (nat_lt c.moment m.greatest)
      where
        of : (o : Option Code) → HasGoodFields (judged_by c o)
        of None = (line_spelled edition line c is).command.fields
        of (Some code) = tt

        at : (b : Bool) → HasGoodFields (cond b judgements.Back (judged_by c (verdict m c)))
        at true = tt
        at false = of (verdict m c)

-- what is answered to a judged line that has its choice is true
turn_true : (m : Machine) (j : Judged) (choice : Option Choice) → HasGoodFields j → HasChoice m (accepted_cycle j) choice → IsTrueOutcome (turn m j (cycling (accepted_cycle j) choice)).outcome
turn_true m j choice fields has = by (accepted_cycle j) choice refl has
  where
    by : (c : Option (ℕ × ℕ)) (choice : Option Choice) → accepted_cycle j ≡ c → HasChoice m c choice → IsTrueOutcome (turn m j (cycling c choice)).outcome
    by None choice is has = true_outcome (turn m j None).outcome (plain_reported m j)
    by (Some c) None is has = absurd has
    by (Some c) (Some choice) is has =
        let cycle : j ≡ judgements.Yes c.0 (Cycle c.1) = accepted_is j c is in
        let small : c.1 ≤ most_budget = (subst HasGoodFields cycle fields).most in
        subst (λ (k : Judged). IsTrueOutcome (turn m k (Some (record { budget = c.1; choice = choice }))).outcome) (sym cycle) (true_report m c.0 c.1 choice small has)

-- and what is answered to an entry that may come next
pub entry_true : (m : Machine) (last : ℕ) (e : EntryRecord) → IsNext m last e → IsTrueOutcome (step e.edition m e.line e.choice).outcome
entry_true m last e next =
    subst IsTrueOutcome (sym (step_outcome m e.edition e.line e.choice))
    (turn_true m (judged e.edition m e.line) e.choice (judged_fields e.edition m e.line) next.choice)

pub entries_true : (m : Machine) (last : ℕ) (entries : List EntryRecord) → AreNext m last entries → AreTrue m entries
entries_true m last [] are = tt
entries_true m last (e ∷ entries) are = (entry_true m last e are.0, entries_true (after_entry m e) e.edition entries are.1)

-- so it is in each legal history
pub legal_true : (history : List EntryRecord) → IsLegal history → AreTrue opening history
legal_true history legal = entries_true opening 0 history legal.entries
