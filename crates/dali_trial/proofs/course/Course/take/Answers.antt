use Rattle.std.proofs.Common.{◌≡◌, ◌∙◌, ◌+◌, refl, sym, ap, subst}
use Rattle.dali_entry.specs.EntryRecord.{EntryRecord}
use Rattle.dali_machine.specs.Machine.{Machine}
use Rattle.dali_machine.specs.Outcomes.{IsReported}
use Rattle.dali_machine.specs.Ready.{IsReady}
use Rattle.dali_machine.specs.Step.{step}
use Rattle.dali_trial.specs.Tried.{trial_edition, answers_of}
use Rattle.dali_trial.proofs.Taking.{on_ok, taken_more}
use Rattle.dali_trial.proofs.course.Course.take.Goals as goal

pub returns : goal.returns
returns c lines taken =
    let m : Machine = c.args.self.now.state.machine in
    let e : EntryRecord = record { edition = trial_edition; line = c.args.line.now; choice = c.in_ok-choice.choice } in
    let told : c.commit-outcome.result ≡ (step trial_edition m e.line e.choice).outcome = c.commit-outcome.ensures.outcome ∙ c.in_ok-ready.ensures.ready.outcome in
    let same : c.prepare.new.self.machine ≡ m = c.in_ok-ready.ensures.machine in
    on_ok c.add.result
    (λ added counted. taken_more lines c.args.self.now (record { state = c.commit-outcome.new.self; summary = c.add.new.self; alloc = c.args.self.now.alloc }) e taken
    (record {
      edition = refl;
      line = c.bytes-bytes.ensures.line;
      choice = c.in_ok-choice.ensures.choice;
      finest = c.in_ok-choice.ensures.finest;
      reported = subst IsReported told c.commit-outcome.ensures.reported;
    })
    (c.commit-outcome.ensures.step trial_edition e.line e.choice
    (subst (λ (x : Machine). IsReady trial_edition x e.line e.choice c.in_ok-ready.ready) (sym same) c.in_ok-ready.ensures.ready) ∙ ap (λ (x : Machine). (step trial_edition x e.line e.choice).next) same)
    (c.commit-outcome.ensures.counted ∙ ap (λ (x : Machine). x.commands + 1) same)
    c.number-number.result c.commit-outcome.result
    (c.number-number.ensures ∙ c.in_ok-ready.ensures.ready.number)
    told added counted)
    (c.add.ensures.added (answers_of taken.history) taken.tally) c.add.ensures.counted
