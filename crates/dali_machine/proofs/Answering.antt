use Rattle.std.proofs.Common.{◌≡◌, ℕ, Bool, true, false, cond, not, ◌&&◌, List, [], ◌∷◌, Option, Some, None, nat_lt, refl, sym, subst}
use Rattle.std.specs.Prelude.{IsTrue}
use Rattle.std.specs.List.{list_all}
use Rattle.std.specs.Option.{option_map_or}
use Rattle.dali_account.proofs.SumLemmas.{first_true, second_from_first}
use Rattle.dali_line.specs.Reading.{command_of}
use Rattle.dali_line.specs.declared.command.Command.{Command}
use Rattle.dali_line.specs.declared.command.Verb.{Verb}
use Rattle.dali_line.specs.declared.command.Verb.TheVariants.{Part, Inst, Issue, Draw, Dvp, Fop, Pay, Cancel, Settle, Cutoff, Cycle, Queue, Close, Stat, Ledger, Earmark, Release, Link, Rank}
use Rattle.dali_machine.specs.Machine.{Machine}
use Rattle.dali_machine.specs.declared.outcome.Code.{Code}
use Rattle.dali_machine.specs.declared.outcome.Code.TheVariants.{Closed}
use Rattle.dali_machine.specs.declared.judged.Judged.{Judged}
use Rattle.dali_machine.specs.declared.judged.Judged.TheVariants as judgements
use Rattle.dali_machine.specs.Refusals.{first_of, sentences, refusal}
use Rattle.dali_machine.specs.Step.{judged, judged_by, judged_command, verdict, is_report}
use Rattle.dali_machine.specs.Refused.{is_early, is_told_apart}

-- the sentences of a verb have none of the two early codes
late : Option Code → Bool
late o = option_map_or (λ c. not (is_early c)) o true

first_late : (ss : List (Bool × Code)) → list_all (λ s. not (is_early s.1)) ss ≡ true → late (first_of ss) ≡ true
unfolding late
first_late [] all = refl
first_late (s ∷ ss) all = by s.0 (first_true (not (is_early s.1)) _ all) (first_late ss (second_from_first (not (is_early s.1)) _ all))
  where
    by : (b : Bool) → not (is_early s.1) ≡ true → late (first_of ss) ≡ true → late (cond b (Some s.1) (first_of ss)) ≡ true
    by true here rest = here
    by false here rest = rest

sentences_late : (m : Machine) (t : ℕ) (verb : Verb) → list_all (λ s. not (is_early s.1)) (sentences m t verb) ≡ true
sentences_late m t (Part account) = refl
sentences_late m t (Inst code price) = refl
sentences_late m t (Issue account asset n) = refl
sentences_late m t (Draw account asset n) = refl
sentences_late m t (Dvp id seller buyer code quantity amount) = refl
sentences_late m t (Fop id from to code quantity) = refl
sentences_late m t (Pay id from to amount) = refl
sentences_late m t (Cancel id) = refl
sentences_late m t (Settle id) = refl
sentences_late m t (Cutoff kind moment) = refl
sentences_late m t (Cycle budget) = refl
sentences_late m t Queue = refl
sentences_late m t Close = refl
sentences_late m t (Stat account) = refl
sentences_late m t (Ledger account) = refl
sentences_late m t (Earmark account asset n) = refl
sentences_late m t (Release account asset n) = refl
sentences_late m t (Link first second) = refl
sentences_late m t (Rank id rank) = refl

refusal_late : (m : Machine) (t : ℕ) (verb : Verb) → late (refusal m t verb) ≡ true
unfolding refusal
refusal_late m t verb = first_late (sentences m t verb) (sentences_late m t verb)

closed_late : (b : Bool) (more : Option Code) → late more ≡ true → late (cond b (Some Closed) more) ≡ true
unfolding late
closed_late true more rest = refl
closed_late false more rest = rest

by_late : (c : Command) (o : Option Code) → late o ≡ true → is_told_apart (judged_by c o) ≡ true
unfolding late
by_late c None h = refl
by_late c (Some code) h = h

pub judged_apart : (m : Machine) (edition : ℕ) (line : List ℕ) (j : Judged) → j ≡ judged edition m line → IsTrue (is_told_apart j)
unfolding judged
judged_apart m edition line j is = subst (λ k. IsTrue (is_told_apart k)) (sym is) (by (command_of edition line))
  where
    by : (o : Option Command) → is_told_apart (judged_command m o) ≡ true
    by None = refl
    by (Some c) = at (nat_lt c.moment m.greatest)
      where
        verdict_late : late (verdict m c) ≡ true
        verdict_late = closed_late (m.closed && not (is_report c.verb)) (refusal m c.moment c.verb) (refusal_late m c.moment c.verb)

        at : (b : Bool) → is_told_apart (cond b judgements.Back (judged_by c (verdict m c))) ≡ true
        at true = refl
        at false = by_late c (verdict m c) verdict_late
