use Rattle.std.proofs.Common.{◌≡◌, ◌∙◌, refl, sym, ap, subst}
use Rattle.std.specs.Prelude.{Err}
use Rattle.dali_recover.specs.declared.refusal.RecoverNo.{RecoverNo}
use Rattle.dali_day.specs.DayRun.{DayRun}
use Rattle.dali_day.proofs.Days.{day_unopened, day_opened}
use Rattle.dali_day.proofs.day.open_day.Goals as goal

pub take_found-requires : goal.take_found-requires
take_found-requires g c = record {
  before = g.T.Site.sight c.args.site.now;
  since = record {
    found_is = c.in-Ok.ensures.found;
    rests = c.in-Ok.ensures.rests;
    unwritten = c.in-Ok.ensures.bytes;
    silent = c.in-Ok.ensures.silent;
    stops = c.in-Ok.ensures.stops;
    goes = c.in-Ok.ensures.goes;
    syncs = c.in-Ok.ensures.syncs;
  };
}

pub returns-in-Ok : goal.returns-in-Ok
returns-in-Ok g c tells tells_after =
    day_opened g.S.Source.tells g.T.Site.tells (g.S.Source.feed c.args.source.now) (g.S.Source.feed c.take_found.new.source) (g.T.Site.sight c.args.site.now) (g.T.Site.sight c.take_found.new.site) c.take_found.result tells tells_after
    (c.take_found.ensures (g.T.Site.sight c.args.site.now) (record {
      found_is = c.in-Ok.ensures.found;
      rests = c.in-Ok.ensures.rests;
      unwritten = c.in-Ok.ensures.bytes;
      silent = c.in-Ok.ensures.silent;
      stops = c.in-Ok.ensures.stops;
      goes = c.in-Ok.ensures.goes;
      syncs = c.in-Ok.ensures.syncs;
    }))

pub returns-in-Err : goal.returns-in-Err
returns-in-Err g c tells tells_after =
    subst (DayRun g.S.Source.tells g.T.Site.tells (g.S.Source.feed c.args.source.now) (g.S.Source.feed c.args.source.now) (g.T.Site.sight c.args.site.now) (g.T.Site.sight c.recover.new.site)) (sym c.end_of_recovery.ensures)
    (day_unopened g.S.Source.tells g.T.Site.tells (g.S.Source.feed c.args.source.now) (g.T.Site.sight c.args.site.now) (g.T.Site.sight c.recover.new.site) c.in-Err.no tells tells_after
    (λ told place why is. c.in-Err.ensures.damaged told place why (ap (λ (e : RecoverNo). Err e) is)) (λ told place why at. c.in-Err.ensures.only told place why at)
    (λ is. c.in-Err.ensures.fault (ap (λ (e : RecoverNo). Err e) is)) c.in-Err.ensures.bytes (λ told not. c.in-Err.ensures.firm told (λ is. not (Prim.cc))) c.in-Err.ensures.stops c.in-Err.ensures.silent c.in-Err.ensures.goes c.in-Err.ensures.syncs)
