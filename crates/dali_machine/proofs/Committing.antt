use Rattle.std.proofs.Common.{◌⊎◌, inl, inr, ◌≡◌, ℕ, Bool, true, false, cond, not, ◌&&◌, List, Option, Some, None, Result, Ok, Err, nat_lt, refl, sym, ap, ◌∙◌, subst}
use Rattle.std.specs.Prelude.{IfOk}
use Rattle.dali_line.specs.declared.command.Command.{Command}
use Rattle.dali_line.specs.declared.command.Verb.{Verb}
use Rattle.dali_line.specs.declared.command.Verb.TheVariants.{Part, Inst, Issue, Draw, Dvp, Fop, Pay, Cancel, Settle, Cutoff, Cycle, Queue, Close, Stat, Ledger, Earmark, Release, Link, Rank}
use Rattle.dali_machine.specs.Machine.{Machine, StateRecord}
use Rattle.dali_machine.specs.declared.outcome.Code.{Code}
use Rattle.dali_machine.specs.declared.outcome.Code.TheVariants.{Closed}
use Rattle.dali_machine.specs.declared.judged.Judged.{Judged}
use Rattle.dali_machine.specs.declared.judged.Judged.TheVariants as judgements
use Rattle.dali_machine.specs.Refusals.{refusal}
use Rattle.dali_machine.specs.Effects.{accepted, net_for}
use Rattle.dali_machine.specs.Outcomes.{answered, IsReported, IsTrueOutcome}
use Rattle.dali_machine.specs.declared.outcome.Outcome.{Outcome}
use Rattle.dali_machine.specs.declared.outcome.Outcome.TheVariants as outcomes
use Rattle.dali_machine.specs.declared.report.CycleReport.{CycleReport}
use Rattle.dali_line.specs.Reading.{command_of}
use Rattle.dali_tree.specs.declared.choice.Choice.{Choice}
use Rattle.dali_machine.specs.Cycles.{Cycling, accepted_cycle, cycling, HasChoice, report_of}
use Rattle.dali_machine.specs.Step.{one_command_more, at_moment, taken, turn, step, judged, judged_by, judged_command, verdict, is_report}
use Rattle.dali_machine.specs.Ready.{ReadyRecord, IsReady, IsMadeReady, IsAllowed, HasGoodFields, CanCommit, MayTake, HasNetFor, HasPlaceFor, HasPlaceForJudged, net_of_judged, cycle_in}

-- what is refused, booked and answered doesn't turn on the count and the greatest moment
pub refusal_counted : (m : Machine) (t u : ℕ) (verb : Verb) → refusal (at_moment (one_command_more m) t) u verb ≡ refusal m u verb
unfolding refusal
refusal_counted m t u (Part account) = refl
refusal_counted m t u (Inst code price) = refl
refusal_counted m t u (Issue account asset n) = refl
refusal_counted m t u (Draw account asset n) = refl
refusal_counted m t u (Dvp id seller buyer code quantity amount) = refl
refusal_counted m t u (Fop id from to code quantity) = refl
refusal_counted m t u (Pay id from to amount) = refl
refusal_counted m t u (Cancel id) = refl
refusal_counted m t u (Settle id) = refl
refusal_counted m t u (Cutoff kind moment) = refl
refusal_counted m t u (Cycle budget) = refl
refusal_counted m t u Queue = refl
refusal_counted m t u Close = refl
refusal_counted m t u (Stat account) = refl
refusal_counted m t u (Ledger account) = refl
refusal_counted m t u (Earmark account asset n) = refl
refusal_counted m t u (Release account asset n) = refl
refusal_counted m t u (Link first second) = refl
refusal_counted m t u (Rank id rank) = refl

pub net_counted : (m : Machine) (t : ℕ) (verb : Verb) → net_for (at_moment (one_command_more m) t) verb ≡ net_for m verb
unfolding net_for
net_counted m t (Part account) = refl
net_counted m t (Inst code price) = refl
net_counted m t (Issue account asset n) = refl
net_counted m t (Draw account asset n) = refl
net_counted m t (Dvp id seller buyer code quantity amount) = refl
net_counted m t (Fop id from to code quantity) = refl
net_counted m t (Pay id from to amount) = refl
net_counted m t (Cancel id) = refl
net_counted m t (Settle id) = refl
net_counted m t (Cutoff kind moment) = refl
net_counted m t (Cycle budget) = refl
net_counted m t Queue = refl
net_counted m t Close = refl
net_counted m t (Stat account) = refl
net_counted m t (Ledger account) = refl
net_counted m t (Earmark account asset n) = refl
net_counted m t (Release account asset n) = refl
net_counted m t (Link first second) = refl
net_counted m t (Rank id rank) = refl

answered_counted : (m : Machine) (verb : Verb) → answered (one_command_more m) verb ≡ answered m verb
answered_counted m (Part account) = refl
answered_counted m (Inst code price) = refl
answered_counted m (Issue account asset n) = refl
answered_counted m (Draw account asset n) = refl
answered_counted m (Dvp id seller buyer code quantity amount) = refl
answered_counted m (Fop id from to code quantity) = refl
answered_counted m (Pay id from to amount) = refl
answered_counted m (Cancel id) = refl
answered_counted m (Settle id) = refl
answered_counted m (Cutoff kind moment) = refl
answered_counted m (Cycle budget) = refl
answered_counted m Queue = refl
answered_counted m Close = refl
answered_counted m (Stat account) = refl
answered_counted m (Ledger account) = refl
answered_counted m (Earmark account asset n) = refl
answered_counted m (Release account asset n) = refl
answered_counted m (Link first second) = refl
answered_counted m (Rank id rank) = refl

report_counted : (m : Machine) (t budget : ℕ) (choice : Choice) → report_of (one_command_more m) t budget choice ≡ report_of m t budget choice
unfolding report_of
report_counted m t budget choice = refl

taken_counted : (m : Machine) (t : ℕ) (verb : Verb) (cycle : Option Cycling) → (taken (one_command_more m) t verb cycle).outcome ≡ (taken m t verb cycle).outcome
taken_counted m t verb None = answered_counted m verb
taken_counted m t verb (Some c) = ap outcomes.Cycle (report_counted m t c.budget c.choice)

pub outcome_counted : (m : Machine) (j : Judged) (cycle : Option Cycling) → (turn (one_command_more m) j cycle).outcome ≡ (turn m j cycle).outcome
outcome_counted m judgements.Form cycle = refl
outcome_counted m judgements.Back cycle = refl
outcome_counted m (judgements.No t code) cycle = refl
outcome_counted m (judgements.Yes t verb) cycle = taken_counted m t verb cycle

place_kept : (s : StateRecord) (m : Machine) (verb : Verb) → HasPlaceFor s verb → HasPlaceFor (record s { machine = m }) verb
place_kept s m (Part account) h = h
place_kept s m (Inst code price) h = h
place_kept s m (Issue account asset n) h = h
place_kept s m (Draw account asset n) h = h
place_kept s m (Dvp id seller buyer code quantity amount) h = h
place_kept s m (Fop id from to code quantity) h = h
place_kept s m (Pay id from to amount) h = h
place_kept s m (Cancel id) h = h
place_kept s m (Settle id) h = h
place_kept s m (Cutoff kind moment) h = h
place_kept s m (Cycle budget) h = h
place_kept s m Queue h = h
place_kept s m Close h = h
place_kept s m (Stat account) h = h
place_kept s m (Ledger account) h = h
place_kept s m (Earmark account asset n) h = h
place_kept s m (Release account asset n) h = h
place_kept s m (Link first second) h = h
place_kept s m (Rank id rank) h = h

-- what `accept` may rely on, from what `commit` may
pub may_take : (s : StateRecord) (t : ℕ) (verb : Verb) (ready : ReadyRecord) → CanCommit s ready → ready.judged ≡ judgements.Yes t verb → MayTake (record s { machine = at_moment (one_command_more s.machine) t }) verb
may_take s t verb ready can is =
    let allowed : refusal s.machine t verb ≡ None = subst (IsAllowed s.machine) is can.allowed in
    let fields : HasGoodFields (judgements.Yes t verb) = subst HasGoodFields is can.fields in
    let place : HasPlaceFor s verb = subst (HasPlaceForJudged s) is can.room.place in
    record {
      moment = t;
      allowed = refusal_counted s.machine t t verb ∙ allowed;
      fields = fields;
      place = place_kept s (at_moment (one_command_more s.machine) t) verb place;
    }

pub netted : (s : StateRecord) (t : ℕ) (verb : Verb) (ready : ReadyRecord) → CanCommit s ready → cycle_in ready.outcome ≡ None → ready.judged ≡ judgements.Yes t verb →
    HasNetFor (record s { machine = at_moment (one_command_more s.machine) t }) verb ready.net
netted s t verb ready can none is = record {
  is = can.net ∙ ap (λ c. net_of_judged s.machine ready.judged c) none ∙ ap (λ j. net_of_judged s.machine j None) is ∙ sym (net_counted s.machine t verb);
  lines = can.room.lines;
  rows = can.room.rows;
}

-- the turn of a judgement made ready is the step
pub step_outcome : (m : Machine) (edition : ℕ) (line : List ℕ) (choice : Option Choice) →
    (step edition m line choice).outcome ≡ (turn m (judged edition m line) (cycling (accepted_cycle (judged edition m line)) choice)).outcome
unfolding step
step_outcome m edition line choice = outcome_counted m (judged edition m line) (cycling (accepted_cycle (judged edition m line)) choice)

-- where a choice is there exactly for a cycle, the answer tells it
pub cycle_told : (m : Machine) (j : Judged) (choice : Option Choice) → cycle_in (turn m j (cycling (accepted_cycle j) choice)).outcome ≡ cycling (accepted_cycle j) choice
unfolding report_of
cycle_told m judgements.Form choice = refl
cycle_told m judgements.Back choice = refl
cycle_told m (judgements.No t code) choice = refl
cycle_told m (judgements.Yes t (Cycle budget)) None = refl
cycle_told m (judgements.Yes t (Cycle budget)) (Some choice) = refl
cycle_told m (judgements.Yes t (Part account)) choice = refl
cycle_told m (judgements.Yes t (Inst code price)) choice = refl
cycle_told m (judgements.Yes t (Issue account asset n)) choice = refl
cycle_told m (judgements.Yes t (Draw account asset n)) choice = refl
cycle_told m (judgements.Yes t (Dvp id seller buyer code quantity amount)) choice = refl
cycle_told m (judgements.Yes t (Fop id from to code quantity)) choice = refl
cycle_told m (judgements.Yes t (Pay id from to amount)) choice = refl
cycle_told m (judgements.Yes t (Cancel id)) choice = refl
cycle_told m (judgements.Yes t (Settle id)) choice = refl
cycle_told m (judgements.Yes t (Cutoff kind moment)) choice = refl
cycle_told m (judgements.Yes t Queue) choice = refl
cycle_told m (judgements.Yes t Close) choice = refl
cycle_told m (judgements.Yes t (Stat account)) choice = refl
cycle_told m (judgements.Yes t (Ledger account)) choice = refl
cycle_told m (judgements.Yes t (Earmark account asset n)) choice = refl
cycle_told m (judgements.Yes t (Release account asset n)) choice = refl
cycle_told m (judgements.Yes t (Link first second)) choice = refl
cycle_told m (judgements.Yes t (Rank id rank)) choice = refl

pub step_of_turn : (m : Machine) (edition : ℕ) (line : List ℕ) (choice : Option Choice) (ready : ReadyRecord) → IsReady edition m line choice ready →
    (turn (one_command_more m) ready.judged (cycle_in ready.outcome)).next ≡ (step edition m line choice).next
unfolding step
step_of_turn m edition line choice ready made =
    ap (λ j. (turn (one_command_more m) j (cycle_in ready.outcome)).next) made.judged
    ∙ ap (λ c. (turn (one_command_more m) (judged edition m line) c).next) (ap cycle_in (made.outcome ∙ step_outcome m edition line choice) ∙ cycle_told m (judged edition m line) choice)

-- an accepted judgement was allowed
pub judged_allowed : (m : Machine) (edition : ℕ) (line : List ℕ) (j : Judged) → j ≡ judged edition m line → IsAllowed m j
unfolding judged
judged_allowed m edition line j is = subst (IsAllowed m) (sym is) (by (command_of edition line))
  where
    allowed_by : (c : Command) (o : Option Code) → o ≡ verdict m c → IsAllowed m (judged_by c o)
    allowed_by c None e = by_closed (m.closed && not (is_report c.verb)) (sym e)
      where
        by_closed : (b : Bool) → (cond b (Some Closed) (refusal m c.moment c.verb)) ≡ None → refusal m c.moment c.verb ≡ None
        by_closed true h = absurd (cc)
        by_closed false h = h
    allowed_by c (Some code) e = tt

    by : (o : Option Command) → IsAllowed m (judged_command m o)
    by None = tt
    by (Some c) = at (nat_lt c.moment m.greatest)
      where
        at : (b : Bool) → IsAllowed m (cond b judgements.Back (judged_by c (verdict m c)))
        at true = tt
        at false = allowed_by c (verdict m c) refl

-- what is ready for a judgement is ready for its line
pub line_ready : {E : Type 0} (r : Result ReadyRecord E) (edition : ℕ) (m : Machine) (line : List ℕ) (choice : Option Choice) (j : Judged) → j ≡ judged edition m line →
    IfOk r (IsMadeReady m j (cycling (accepted_cycle j) choice)) → IfOk r (IsReady edition m line choice)
line_ready (Ok ready) edition m line choice j is made = record {
  judged = made.judged ∙ is;
  outcome = made.outcome ∙ ap (λ k. (turn m k (cycling (accepted_cycle k) choice)).outcome) is ∙ sym (step_outcome m edition line choice);
  number = made.number;
}
line_ready (Err e) edition m line choice j is made = tt

-- a choice is there exactly for a cycle, so where one of both is missing there is no cycle to book
pub no_cycle : (m : Machine) (c : Option (ℕ × ℕ)) (choice : Option Choice) → HasChoice m c choice → ((p : ℕ × ℕ) (d : Choice) → c ≡ Some p → choice ≡ Some d → ⊥) → cycling c choice ≡ None
no_cycle m None None has none = refl
no_cycle m None (Some d) has none = refl
no_cycle m (Some p) None has none = refl
no_cycle m (Some p) (Some d) has none = absurd (none p d refl refl)

-- what a machine answers is true
pub true_outcome : (o : Outcome) → IsReported o → IsTrueOutcome o
true_outcome (outcomes.Cycle report) told = told.tells
true_outcome outcomes.Done told = tt
true_outcome (outcomes.No code) told = tt
true_outcome (outcomes.Queue rows) told = tt
true_outcome (outcomes.Stat pairs ids) told = tt
true_outcome (outcomes.Ledger rows) told = tt

-- what isn't answered by a cycle reports nothing
pub plain_reported : (m : Machine) (j : Judged) → IsReported (turn m j None).outcome
plain_reported m judgements.Form = tt
plain_reported m judgements.Back = tt
plain_reported m (judgements.No t code) = tt
plain_reported m (judgements.Yes t (Part account)) = tt
plain_reported m (judgements.Yes t (Inst code price)) = tt
plain_reported m (judgements.Yes t (Issue account asset n)) = tt
plain_reported m (judgements.Yes t (Draw account asset n)) = tt
plain_reported m (judgements.Yes t (Dvp id seller buyer code quantity amount)) = tt
plain_reported m (judgements.Yes t (Fop id from to code quantity)) = tt
plain_reported m (judgements.Yes t (Pay id from to amount)) = tt
plain_reported m (judgements.Yes t (Cancel id)) = tt
plain_reported m (judgements.Yes t (Settle id)) = tt
plain_reported m (judgements.Yes t (Cutoff kind moment)) = tt
plain_reported m (judgements.Yes t (Cycle budget)) = tt
plain_reported m (judgements.Yes t Queue) = tt
plain_reported m (judgements.Yes t Close) = tt
plain_reported m (judgements.Yes t (Stat account)) = tt
plain_reported m (judgements.Yes t (Ledger account)) = tt
plain_reported m (judgements.Yes t (Earmark account asset n)) = tt
plain_reported m (judgements.Yes t (Release account asset n)) = tt
plain_reported m (judgements.Yes t (Link first second)) = tt
plain_reported m (judgements.Yes t (Rank id rank)) = tt

-- what is no cycle's answer has none
pub no_cycle_told : (o : Outcome) → ((report : CycleReport) → o ≡ outcomes.Cycle report → ⊥) → cycle_in o ≡ None
no_cycle_told outcomes.Done none = refl
no_cycle_told (outcomes.No code) none = refl
no_cycle_told (outcomes.Cycle report) none = absurd (none report refl)
no_cycle_told (outcomes.Queue rows) none = refl
no_cycle_told (outcomes.Stat pairs ids) none = refl
no_cycle_told (outcomes.Ledger rows) none = refl

-- the turn of an accepted verb that is no cycle
pub plain_turn : (m : Machine) (j : Judged) (t : ℕ) (verb : Verb) (o : Outcome) → j ≡ judgements.Yes t verb → cycle_in o ≡ None → (turn m j (cycle_in o)).next ≡ accepted (at_moment m t) verb
plain_turn m j t verb o is none = ap (λ (k : Judged). (turn m k (cycle_in o)).next) is ∙ ap (λ (c : Option Cycling). (turn m (judgements.Yes t verb) c).next) none

-- the judged line of an accepted CYCLE
pub accepted_is : (j : Judged) (c : ℕ × ℕ) → accepted_cycle j ≡ Some c → j ≡ judgements.Yes c.0 (Cycle c.1)
accepted_is judgements.Form c e = absurd (cc)
accepted_is judgements.Back c e = absurd (cc)
accepted_is (judgements.No t code) c e = absurd (cc)
accepted_is (judgements.Yes t (Cycle budget)) c e = ap (λ (o : Option (ℕ × ℕ)). at o) e
  where
    at : Option (ℕ × ℕ) → Judged
    at (Some d) = judgements.Yes d.0 (Cycle d.1)
    at None = judgements.Form
accepted_is (judgements.Yes t (Part account)) c e = absurd (cc)
accepted_is (judgements.Yes t (Inst code price)) c e = absurd (cc)
accepted_is (judgements.Yes t (Issue account asset n)) c e = absurd (cc)
accepted_is (judgements.Yes t (Draw account asset n)) c e = absurd (cc)
accepted_is (judgements.Yes t (Dvp id seller buyer code quantity amount)) c e = absurd (cc)
accepted_is (judgements.Yes t (Fop id from to code quantity)) c e = absurd (cc)
accepted_is (judgements.Yes t (Pay id from to amount)) c e = absurd (cc)
accepted_is (judgements.Yes t (Cancel id)) c e = absurd (cc)
accepted_is (judgements.Yes t (Settle id)) c e = absurd (cc)
accepted_is (judgements.Yes t (Cutoff kind moment)) c e = absurd (cc)
accepted_is (judgements.Yes t Queue) c e = absurd (cc)
accepted_is (judgements.Yes t Close) c e = absurd (cc)
accepted_is (judgements.Yes t (Stat account)) c e = absurd (cc)
accepted_is (judgements.Yes t (Ledger account)) c e = absurd (cc)
accepted_is (judgements.Yes t (Earmark account asset n)) c e = absurd (cc)
accepted_is (judgements.Yes t (Release account asset n)) c e = absurd (cc)
accepted_is (judgements.Yes t (Link first second)) c e = absurd (cc)
accepted_is (judgements.Yes t (Rank id rank)) c e = absurd (cc)

-- what is ready for an accepted CYCLE is ready for its line
pub cycle_ready : {E : Type 0} (r : Result ReadyRecord E) (edition : ℕ) (m : Machine) (line : List ℕ) (choice : Option Choice) (d : Choice) (j : Judged) (c : ℕ × ℕ) → j ≡ judged edition m line →
    accepted_cycle j ≡ Some c → choice ≡ Some d → IfOk r (IsMadeReady m (judgements.Yes c.0 (Cycle c.1)) (Some (record { budget = c.1; choice = d }))) → IfOk r (IsReady edition m line choice)
cycle_ready r edition m line choice d j c is accepted there made =
    line_ready r edition m line choice j is
    (subst (λ (o : Option Cycling). IfOk r (IsMadeReady m j o)) (sym (ap (λ (o : Option (ℕ × ℕ)). cycling o choice) accepted ∙ ap (cycling (Some c)) there))
    (subst (λ (k : Judged). IfOk r (IsMadeReady m k (Some (record { budget = c.1; choice = d })))) (sym (accepted_is j c accepted)) made))

-- and so is what is ready for any other
pub plain_ready : {E : Type 0} (r : Result ReadyRecord E) (edition : ℕ) (m : Machine) (line : List ℕ) (choice : Option Choice) (j : Judged) → j ≡ judged edition m line →
    HasChoice m (accepted_cycle j) choice → ((p : ℕ × ℕ) (d : Choice) → accepted_cycle j ≡ Some p → choice ≡ Some d → ⊥) → IfOk r (IsMadeReady m j None) → IfOk r (IsReady edition m line choice)
plain_ready r edition m line choice j is has none made =
    line_ready r edition m line choice j is (subst (λ (o : Option Cycling). IfOk r (IsMadeReady m j o)) (sym (no_cycle m (accepted_cycle j) choice has none)) made)

-- the turns that change no more than the moment
pub same_turn : (m : Machine) (j : Judged) (cycle : Option Cycling) → (j ≡ judgements.Form) ⊎ (j ≡ judgements.Back) → (turn m j cycle).next ≡ m
same_turn m j cycle (inl e) = ap (λ k. (turn m k cycle).next) e
same_turn m j cycle (inr e) = ap (λ k. (turn m k cycle).next) e

pub moved_turn : (m : Machine) (j : Judged) (cycle : Option Cycling) (t : ℕ) (code : Code) → j ≡ judgements.No t code → (turn m j cycle).next ≡ at_moment m t
moved_turn m j cycle t code e = ap (λ k. (turn m k cycle).next) e
