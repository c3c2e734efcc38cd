use Rattle.std.proofs.Common.{◌≤◌, refl, sym, subst}
use Rattle.dali_desk.specs.declared.job.Job.TheVariants.{Init, Day, Check, Export, Gen, Trial, Raise, Gate, Ship, Follow}
use Rattle.dali_desk.specs.Upkeep.{GenOver, TrialOver}
use Rattle.dali_desk.specs.Words.{IsJob}
use Rattle.dali_desk.proofs.Jobs.{one_number, one_trial}
use Rattle.dali_desk.proofs.desk.run.Goals as goal

pub make_journal-requires : goal.make_journal-requires
make_journal-requires g c =
    let job : IsJob c.args.words.now (Init c.in-Ok-Init.field-0-0) = subst (IsJob c.args.words.now) c.in-Ok-Init.field-0-is c.in-Ok-Init.ensures.ok in
    subst (λ size. 64 ≤ size) (sym (c.requires.size c.in-Ok-Init.field-0-0 job)) job.3

pub returns-in-Err-clause-init : goal.returns-in-Err-clause-init
returns-in-Err-clause-init g c size job = absurd (c.in-Err.ensures.usage (Init size) job)

pub returns-in-Err-clause-day : goal.returns-in-Err-clause-day
returns-in-Err-clause-day g c is = absurd (c.in-Err.ensures.usage Day is)

pub returns-in-Err-clause-check : goal.returns-in-Err-clause-check
returns-in-Err-clause-check g c is = absurd (c.in-Err.ensures.usage Check is)

pub returns-in-Err-clause-exports : goal.returns-in-Err-clause-exports
returns-in-Err-clause-exports g c is = absurd (c.in-Err.ensures.usage Export is)

pub returns-in-Err-clause-generates : goal.returns-in-Err-clause-generates
returns-in-Err-clause-generates g c n is = absurd (c.in-Err.ensures.usage (Gen n) is)

pub returns-in-Err-clause-raises : goal.returns-in-Err-clause-raises
returns-in-Err-clause-raises g c is = absurd (c.in-Err.ensures.usage Raise is)

pub returns-in-Err-clause-gate : goal.returns-in-Err-clause-gate
returns-in-Err-clause-gate g c is = absurd (c.in-Err.ensures.usage Gate is)

pub returns-in-Ok-Gen-clause-generates : goal.returns-in-Ok-Gen-clause-generates
returns-in-Ok-Gen-clause-generates g c n job =
    let own : IsJob c.args.words.now (Gen c.in-Ok-Gen.n) = subst (IsJob c.args.words.now) c.in-Ok-Gen.field-0-is c.in-Ok-Gen.ensures.ok in
    let done = subst (λ k. GenOver k g.T.Site.tells (g.T.Site.sight c.args.site.now) (g.T.Site.sight c.run_gen.new.site) c.run_gen.result) (one_number c.args.words.now c.in-Ok-Gen.n n own job) c.run_gen.ensures in
    (refl, subst (GenOver n g.T.Site.tells (g.T.Site.sight c.args.site.now) (g.T.Site.sight c.run_gen.new.site)) (sym c.whole-in-Ok-Gen.ensures.same) done)

pub returns-in-Err-clause-tries : goal.returns-in-Err-clause-tries
returns-in-Err-clause-tries g c n is = absurd (c.in-Err.ensures.usage (Trial n) is)

pub returns-in-Err-clause-ships : goal.returns-in-Err-clause-ships
returns-in-Err-clause-ships g c is = absurd (c.in-Err.ensures.usage Ship is)

pub returns-in-Err-clause-follows : goal.returns-in-Err-clause-follows
returns-in-Err-clause-follows g c is = absurd (c.in-Err.ensures.usage Follow is)

pub returns-in-Ok-Trial-clause-tries : goal.returns-in-Ok-Trial-clause-tries
returns-in-Ok-Trial-clause-tries g c n job =
    let own : IsJob c.args.words.now (Trial c.in-Ok-Trial.n) = subst (IsJob c.args.words.now) c.in-Ok-Trial.field-0-is c.in-Ok-Trial.ensures.ok in
    let done = subst (λ k. TrialOver k g.T.Site.tells (g.T.Site.sight c.args.site.now) (g.T.Site.sight c.run_trial.new.site) c.run_trial.result) (one_trial c.args.words.now c.in-Ok-Trial.n n own job) c.run_trial.ensures in
    (refl, subst (TrialOver n g.T.Site.tells (g.T.Site.sight c.args.site.now) (g.T.Site.sight c.run_trial.new.site)) (sym c.whole-in-Ok-Trial.ensures.same) done)
