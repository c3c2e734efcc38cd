use Rattle.std.proofs.Common.{◌≡◌, ◌∙◌, ℕ, ◌≤◌, List, [], ◌∷◌, ◌++◌, refl, ap, arith}
use Rattle.std.specs.Prelude.{IsTrue}
use Rattle.std.proofs.lemmas.List.Elements.{All-nil, All-push, All-weaker}
use Rattle.dali_entry.specs.EntryRecord.{EntryRecord}
use Rattle.dali_line.specs.Line.{is_line}
use Rattle.dali_machine.specs.Cycles.{accepted_cycle}
use Rattle.dali_machine.specs.History.{HasItsChoice, after_entry, state_after, state_of}
use Rattle.dali_machine.specs.Machine.{Machine, opening}
use Rattle.dali_machine.specs.Outcomes.{IsReported}
use Rattle.dali_machine.specs.Step.{judged, step}
use Rattle.dali_recover.proofs.Histories.{reported_more}
use Rattle.dali_register.specs.Added.{HasFinest, HaveFinest}
use Rattle.dali_register.proofs.Texts.{lines_append, last_within, next_more}
use Rattle.dali_trial.specs.Tried.{trial_edition, answer_in, answers, IsTried}

-- what is answered to one more entry
pub answers_more : (m : Machine) (history : List EntryRecord) (e : EntryRecord) → answers m (history ++ e ∷ []) ≡ answers m history ++ answer_in (state_after m history) e ∷ []
answers_more m [] e = refl
answers_more m (x ∷ history) e = ap (λ rest. answer_in m x ∷ rest) (answers_more (after_entry m x) history e)

-- one more entry whose choice has the finest parts
finest_more : (m : Machine) (history : List EntryRecord) (e : EntryRecord) → HaveFinest m history →
    HasFinest (state_after m history) e.choice (accepted_cycle (judged e.edition (state_after m history) e.line)) → HaveFinest m (history ++ e ∷ [])
finest_more m [] e have has = (has, tt)
finest_more m (x ∷ history) e have has = (have.0, finest_more (after_entry m x) history e have.1 has)

-- an entry that a trial may take in a state
pub record MayTry (m : Machine) (e : EntryRecord) : Type 0 where
  pub edition : e.edition ≡ trial_edition
  pub line : IsTrue (is_line e.line)
  pub choice : HasItsChoice m (judged e.edition m e.line) e.choice
  pub finest : HasFinest m e.choice (accepted_cycle (judged e.edition m e.line))
  pub reported : IsReported (step e.edition m e.line e.choice).outcome

-- one more entry is taken
pub tried_more : (lines : List (List ℕ)) (history : List EntryRecord) (e : EntryRecord) → IsTried lines history → MayTry (state_of history) e → IsTried (lines ++ e.line ∷ []) (history ++ e ∷ [])
tried_more lines history e tried may = record {
  lines_are = lines_append history (e ∷ []) ∙ ap (λ ls. ls ++ e.line ∷ []) tried.lines_are;
  editions = All-push (λ (x : EntryRecord). x.edition ≡ trial_edition) history e tried.editions may.edition;
  legal = record {
    entries = next_more opening 0 history e tried.legal.entries (record {
      line = may.line;
      edition = omega (
        arith,
        may.edition,
        last_within 1 0 history (omega arith)
            (All-weaker (λ (x : EntryRecord). x.edition ≡ trial_edition) (λ (x : EntryRecord). x.edition ≤ 1) (λ x own. omega (arith, own)) history tried.editions),
      );
      choice = may.choice;
    });
  };
  finest = finest_more opening history e tried.finest may.finest;
  reported = reported_more opening history e tried.reported may.reported;
}

-- nothing is taken
pub tried_none : IsTried [] []
tried_none = record {
  lines_are = refl;
  editions = All-nil (λ (x : EntryRecord). x.edition ≡ trial_edition);
  legal = record { entries = tt };
  finest = tt;
  reported = tt;
}
