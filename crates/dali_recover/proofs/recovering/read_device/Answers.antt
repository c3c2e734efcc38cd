use Rattle.std.proofs.Common.{◌≡◌, ℕ, List, sym, ap, subst, Err}
use Rattle.std.proofs.lemmas.Result.{err_from_is_err_and}
use Rattle.dali_outside.specs.Outside.{now}
use Rattle.dali_outside.specs.Stops.{MayLeave}
use Rattle.dali_outside.proofs.Moments.{leaves_still}
use Rattle.dali_journal.specs.Holds.{HoldsAt}
use Rattle.dali_journal.specs.declared.refusal.OpenNo.{OpenNo}
use Rattle.dali_journal.specs.declared.refusal.OpenNo.TheVariants as unopened_by
use Rattle.dali_recover.specs.Spells.{records_of}
use Rattle.dali_recover.specs.Damaged.{DamagedAt}
use Rattle.dali_recover.specs.Recovers.{IsFound}
use Rattle.dali_recover.specs.declared.refusal.RecoverNo.{RecoverNo}
use Rattle.dali_recover.specs.declared.refusal.RecoverNo.TheVariants as errors
use Rattle.dali_recover.proofs.Ending.{unopened, no_of_damaged, rests, firm_too}
use Rattle.dali_recover.proofs.recovering.read_device.Goals as goal

pub returns-in_err-journal-clause-damaged : goal.returns-in_err-journal-clause-damaged
returns-in_err-journal-clause-damaged g c told place why is =
    let q = err_from_is_err_and c.from_residual.result c.from_residual.ensures.1 in
    let same : c.in_err-journal.field-0.0 ≡ unopened_by.Damaged place why = no_of_damaged c.in_err-journal.field-0.0 place why (cc (q.1, q.2, is)) in
    unopened g.T.Site.tells (g.T.Site.sight c.args.site.now) place why told (c.size-size.ensures.told told).bytes
    (c.in_err-journal.ensures.damaged place why (ap (λ (e : OpenNo). Err e) same))

pub returns-in_err-found-clause-damaged : goal.returns-in_err-found-clause-damaged
returns-in_err-found-clause-damaged g c told place why is =
    let q = err_from_is_err_and c.from_residual-in_err-found.result c.from_residual-in_err-found.ensures.1 in
    let same : c.in_err-found.field-0.0 ≡ errors.Damaged place why = cc (q.1, q.2, is) in
    subst (λ (bs : List ℕ). DamagedAt bs place why) (c.open_journal.ensures.bytes told)
    (c.in_err-found.ensures.damaged told place why (ap (λ (e : RecoverNo). Err e) same))

pub returns-clause-rests : goal.returns-clause-rests
returns-clause-rests g c told =
    let new = g.T.Site.sight c.read_history.new.site in
    let disk = c.read_history.ensures.quiet.disk told in
    rests (g.T.Site.sight c.args.site.now).size new c.in_ok-found.found (c.size-size-2.ensures.told told)
    (firm_too (g.T.Site.sight c.open_journal.new.site) new disk (c.in_ok-journal.ensures.firm told (λ is. absurd (cc is))))
    (subst (λ n. IsFound n c.in_ok-found.found) c.open_journal.ensures.goes.same_size c.in_ok-found.ensures.found)
    (subst (λ (bs : List ℕ). HoldsAt c.in_ok-found.found.journal.tail c.in_ok-found.found.journal.edition (records_of c.in_ok-found.found.entries) bs) (sym disk.bytes) (c.in_ok-found.ensures.holds told))

pub returns-clause-stops : goal.returns-clause-stops
returns-clause-stops g c told =
    let old = g.T.Site.sight c.args.site.now in
    leaves_still (MayLeave (now old)) old (g.T.Site.sight c.open_journal.new.site) (c.open_journal.ensures.stops told) (g.T.Site.sight c.read_history.new.site)
    (c.read_history.ensures.quiet.disk told) (c.read_history.ensures.quiet.text told)
