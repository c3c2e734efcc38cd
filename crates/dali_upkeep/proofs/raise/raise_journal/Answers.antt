use Rattle.std.proofs.Common.{◌∙◌, sym, ap, subst, Err}
use Rattle.dali_recover.specs.declared.refusal.RecoverNo.{RecoverNo}
use Rattle.dali_upkeep.specs.RaiseRun.{RaiseRun}
use Rattle.dali_upkeep.proofs.Raising.{raised_run, unraised_run}
use Rattle.dali_upkeep.proofs.raise.raise_journal.Goals as goal

pub raise_found-requires : goal.raise_found-requires
raise_found-requires g c = c.in-Ok.ensures.found.read.whole ∙ sym c.recover.ensures.goes.same_size

pub returns-in-Ok : goal.returns-in-Ok
returns-in-Ok g c =
    raised_run g.T.Site.tells (g.T.Site.sight c.args.site.now) (g.T.Site.sight c.recover.new.site) (g.T.Site.sight c.raise_found.new.site) c.in-Ok.found
    (record {
      is = c.in-Ok.ensures.found;
      rests = c.in-Ok.ensures.rests;
      bytes = c.recover.ensures.bytes;
      stops = c.recover.ensures.stops;
      silent = c.recover.ensures.silent;
      goes = c.recover.ensures.goes;
      syncs = c.recover.ensures.syncs;
      spelled = c.in-Ok.ensures.spelled;
      only = c.in-Ok.ensures.only;
    })
    c.raise_found.result c.raise_found.ensures c.size-size.ensures.told

pub returns-in-Err : goal.returns-in-Err
returns-in-Err g c =
    let tells = g.T.Site.tells in
    let old = g.T.Site.sight c.args.site.now in
    let new = g.T.Site.sight c.recover.new.site in
    subst (RaiseRun tells old new) (sym c.unraised.ensures)
    (unraised_run tells old new c.in-Err.refusal (record {
      damaged = λ told place why is. c.in-Err.ensures.damaged told place why (ap (λ (e : RecoverNo). Err e) is);
      spelled = c.in-Err.ensures.spelled;
      only = c.in-Err.ensures.only;
      fault = λ is. c.in-Err.ensures.fault (ap (λ (e : RecoverNo). Err e) is);
      bytes = c.recover.ensures.bytes;
      firm = λ told not. c.in-Err.ensures.firm told (λ is. not (cc is));
      stops = c.recover.ensures.stops;
      silent = c.recover.ensures.silent;
      goes = c.recover.ensures.goes;
      syncs = c.recover.ensures.syncs;
    }) c.size-size.ensures.told c.size-size-in-Err.ensures.told)
