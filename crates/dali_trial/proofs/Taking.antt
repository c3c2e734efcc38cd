use Rattle.std.proofs.Common.{◌≡◌, ◌∙◌, ℕ, ◌+◌, List, [], ◌∷◌, ◌++◌, sym, ap, subst, length-append, arith, Ok, Err}
use Rattle.std.specs.Prelude.{OnOk}
use Rattle.std.specs.declared.result.Result.{Result}
use Rattle.dali_entry.specs.EntryRecord.{EntryRecord}
use Rattle.dali_machine.specs.History.{after_entry, state_of}
use Rattle.dali_machine.specs.Machine.{Machine, opening}
use Rattle.dali_machine.specs.Step.{step}
use Rattle.dali_machine.specs.declared.outcome.Outcome.{Outcome}
use Rattle.dali_register.proofs.Texts.{state_append}
use Rattle.dali_summary.specs.Tally.{Answer, tally_of}
use Rattle.dali_trial.specs.Course.{HasTaken}
use Rattle.dali_trial.specs.Tried.{answer_in, answers_of}
use Rattle.dali_trial.specs.declared.course.Course.{Course}
use Rattle.dali_trial.proofs.Trying.{MayTry, answers_more, tried_more}

-- what is so where a call succeeds
pub on_ok : {X E A B C : Type 0} (r : Result X E) → (A → B → C) → OnOk r A → OnOk r B → OnOk r C
on_ok (Ok x) f one two = f one two
on_ok (Err e) f one two = tt

same_answer : (k l : ℕ) (a b : Outcome) → k ≡ l → a ≡ b → ◌≡◌ {A = Answer} (record { number = k; outcome = a }) (record { number = l; outcome = b })
same_answer k l a b p q = cc

-- the answers with that to one more entry
pub answered_more : (history : List EntryRecord) (e : EntryRecord) (m : Machine) (number : ℕ) (outcome : Outcome) → m ≡ state_of history →
    number ≡ m.commands + 1 → outcome ≡ (step e.edition m e.line e.choice).outcome →
    answers_of history ++ record { number = number; outcome = outcome } ∷ [] ≡ answers_of (history ++ e ∷ [])
answered_more history e m number outcome is counted told =
    ap (λ (a : Answer). answers_of history ++ a ∷ []) (same_answer _ _ _ _ counted told ∙ ap (λ n. answer_in n e) is)
    ∙ sym (answers_more opening history e)

-- One more line is taken as the entry of it.
module _ (lines : List (List ℕ)) (old new : Course) (e : EntryRecord) (taken : HasTaken lines old) (may : MayTry old.state.machine e)
    (machine : new.state.machine ≡ after_entry old.state.machine e) (counted : new.state.machine.commands ≡ old.state.machine.commands + 1) where
  pub taken_more : (number : ℕ) (outcome : Outcome) → number ≡ old.state.machine.commands + 1 → outcome ≡ (step e.edition old.state.machine e.line e.choice).outcome →
      new.summary ≡ tally_of (answers_of taken.history ++ record { number = number; outcome = outcome } ∷ []) → new.summary.commands ≡ old.summary.commands + 1 →
      HasTaken (lines ++ e.line ∷ []) new
  taken_more number outcome is told tally answered = record {
    history = taken.history ++ e ∷ [];
    tried = tried_more lines taken.history e taken.tried (subst (λ m. MayTry m e) taken.machine may);
    machine = machine ∙ ap (λ m. after_entry m e) taken.machine ∙ sym (state_append opening taken.history (e ∷ []));
    tally = tally ∙ ap tally_of (answered_more taken.history e old.state.machine number outcome taken.machine is told);
    taken = omega (arith, counted, taken.taken, length-append lines (e.line ∷ []));
    answered = omega (arith, answered, taken.answered, length-append lines (e.line ∷ []));
  }
