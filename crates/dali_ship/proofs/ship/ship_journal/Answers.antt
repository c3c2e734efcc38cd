use Rattle.std.proofs.Common.{[], List, sym, ap, subst, arith, Err}
use Rattle.dali_recover.specs.declared.refusal.RecoverNo.{RecoverNo}
use Rattle.dali_ship.specs.Printing.{PrintsOn}
use Rattle.dali_replica.specs.Shipping.{shipped}
use Rattle.dali_ship.specs.ShipRun.{ShipRun}
use Rattle.dali_ship.proofs.Framing.{frames_back}
use Rattle.dali_ship.proofs.Fronts.{fronts}
use Rattle.dali_ship.proofs.Shipping.{shipped_run, unshipped_run}
use Rattle.dali_ship.proofs.ship.ship_journal.Goals as goal

pub returns-in-Ok-clause-run : goal.returns-in-Ok-clause-run
returns-in-Ok-clause-run g c =
    let tells = g.T.Site.tells in
    let old = g.T.Site.sight c.args.site.now in
    let mid = g.T.Site.sight c.recover-recovered.new.site in
    let new = g.T.Site.sight c.print_frames.new.site in
    subst (ShipRun tells old new) (sym c.ended.ensures)
    (shipped_run tells old mid new c.in-Ok.found
    (record {
      is = c.in-Ok.ensures.found;
      rests = c.in-Ok.ensures.rests;
      bytes = c.recover-recovered.ensures.bytes;
      stops = c.recover-recovered.ensures.stops;
      silent = c.recover-recovered.ensures.silent;
      goes = c.recover-recovered.ensures.goes;
      syncs = c.recover-recovered.ensures.syncs;
      spelled = c.in-Ok.ensures.spelled;
      only = c.in-Ok.ensures.only;
    })
    (let same = c.recover-recovered.ensures.goes.same_size in omega (arith, same, c.size-size.ensures.size, c.size-size.type_inv))
    c.print_frames.result c.size-size.ensures.told
    (subst (λ (es : List _). PrintsOn c.print_frames.result tells (shipped es) [] [] mid new) c.as_slice.ensures c.print_frames.ensures))

pub returns-in-Ok-clause-frames : goal.returns-in-Ok-clause-frames
returns-in-Ok-clause-frames g c = frames_back

pub returns-in-Ok-clause-fronts : goal.returns-in-Ok-clause-fronts
returns-in-Ok-clause-fronts g c = fronts

pub returns-in-Err-clause-run : goal.returns-in-Err-clause-run
returns-in-Err-clause-run g c =
    let tells = g.T.Site.tells in
    let old = g.T.Site.sight c.args.site.now in
    let new = g.T.Site.sight c.recover-recovered.new.site in
    subst (ShipRun tells old new) (sym c.unshipped.ensures)
    (unshipped_run tells old new c.in-Err.refusal (record {
      damaged = λ told place why is. c.in-Err.ensures.damaged told place why (ap (λ (e : RecoverNo). Err e) is);
      spelled = c.in-Err.ensures.spelled;
      only = c.in-Err.ensures.only;
      fault = λ is. c.in-Err.ensures.fault (ap (λ (e : RecoverNo). Err e) is);
      bytes = c.recover-recovered.ensures.bytes;
      firm = λ told not. c.in-Err.ensures.firm told (λ is. not (cc is));
      stops = c.recover-recovered.ensures.stops;
      silent = c.recover-recovered.ensures.silent;
      goes = c.recover-recovered.ensures.goes;
      syncs = c.recover-recovered.ensures.syncs;
    }) c.size-size.ensures.told)

pub returns-in-Err-clause-frames : goal.returns-in-Err-clause-frames
returns-in-Err-clause-frames g c = frames_back

pub returns-in-Err-clause-fronts : goal.returns-in-Err-clause-fronts
returns-in-Err-clause-fronts g c = fronts
