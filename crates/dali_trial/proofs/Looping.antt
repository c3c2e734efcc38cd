use Rattle.std.proofs.Common.{◌≡◌, ◌∙◌, ℕ, ◌<◌, ◌^◌, List, [], ◌∷◌, ◌++◌, length, sym, ap, subst, append_assoc, append-nil, length-append, Ok, Err, arith}
use Rattle.std.specs.Prelude.{IfOk}
use Rattle.std.specs.declared.result.Result.{Result}
use Rattle.std.proofs.lemmas.List.{length-map}
use Rattle.dali_entry.specs.EntryRecord.{EntryRecord}
use Rattle.dali_gen.specs.Day.{IsDayNumber, day_lines, generated}
use Rattle.dali_gen.proofs.Days.{day_count}
use Rattle.dali_line.specs.Commands.{commands}
use Rattle.dali_trial.specs.Course.{HasTaken}
use Rattle.dali_trial.specs.Tried.{TrialRun, IsTried, summary_of}
use Rattle.dali_trial.specs.declared.course.Course.{Course}

-- the lines of the day of n that a trial has taken, and those that are left
pub record IsUnder (n : ℕ) (course : Course) (left : List (List ℕ)) : Type 0 where
  pub lines : List (List ℕ)
  pub taken : HasTaken lines course
  pub whole : lines ++ left ≡ day_lines n

-- so many are fewer than 2^63
pub few_lines : (n : ℕ) → IsDayNumber n → (lines left : List (List ℕ)) → lines ++ left ≡ day_lines n → length lines < 2 ^ 63
few_lines n number lines left whole =
    omega (arith, number.most, day_count n, length-append lines left, ap length whole)

-- one more is taken
pub under_more : (n : ℕ) (old new : Course) (before after : List (List ℕ)) (line : List ℕ) (under : IsUnder n old before) → before ≡ line ∷ after →
    HasTaken (under.lines ++ line ∷ []) new → IsUnder n new after
under_more n old new before after line under first taken = record {
  lines = under.lines ++ line ∷ [];
  taken = taken;
  whole = append_assoc under.lines (line ∷ []) after ∙ ap (λ ls. under.lines ++ ls) (sym first) ∙ under.whole;
}

-- all are taken
pub run_of : (n : ℕ) (course : Course) (left : List (List ℕ)) (text : List ℕ) → commands (generated n) ≡ day_lines n → left ≡ [] → (under : IsUnder n course left) →
    text ≡ summary_of n under.taken.history → TrialRun n text
run_of n course left text day none under told =
    let all : under.lines ≡ day_lines n = sym (append-nil under.lines) ∙ ap (λ ls. under.lines ++ ls) (sym none) ∙ under.whole in
    let lines = all ∙ sym day in
    record {
      history = under.taken.history;
      tried = subst (λ ls. IsTried ls under.taken.history) lines under.taken.tried;
      count = sym (length-map under.taken.history (λ (e : EntryRecord). e.line)) ∙ ap length (under.taken.tried.lines_are ∙ all) ∙ day_count n;
      text_is = told;
    }

-- so the summary that is answered is that of the trial
pub told_of : {E : Type 0} (n : ℕ) (course : Course) (left : List (List ℕ)) (r : Result (List ℕ) E) → commands (generated n) ≡ day_lines n → left ≡ [] → (under : IsUnder n course left) →
    IfOk r (λ text. text ≡ summary_of n under.taken.history) → IfOk r (TrialRun n)
told_of n course left (Ok text) day none under told = run_of n course left text day none under told
told_of n course left (Err e) day none under told = tt
