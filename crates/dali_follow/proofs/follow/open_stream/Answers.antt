use Rattle.std.proofs.Common.{sym, ap, subst, Err}
use Rattle.dali_recover.specs.Recovers.{IsFound}
use Rattle.dali_recover.specs.declared.refusal.RecoverNo.{RecoverNo}
use Rattle.dali_follow.specs.FollowRun.{FollowRun}
use Rattle.dali_follow.proofs.Runs.{run_unopened, run_opened}
use Rattle.dali_follow.proofs.follow.open_stream.Goals as goal

pub follow_found-requires : goal.follow_found-requires
follow_found-requires g c = record { found = subst (λ n. IsFound n c.in-Ok.found) (sym c.recover.ensures.goes.same_size) c.in-Ok.ensures.found }

pub returns-in-Ok : goal.returns-in-Ok
returns-in-Ok g c tells tells_after =
    run_opened g.S.Source.tells g.T.Site.tells (g.S.Source.feed c.args.source.now) (g.S.Source.feed c.follow_found.new.source) (g.T.Site.sight c.args.site.now) (g.T.Site.sight c.recover.new.site) (g.T.Site.sight c.follow_found.new.site)
    c.in-Ok.found c.follow_found.result tells tells_after c.in-Ok.ensures.found c.in-Ok.ensures.rests c.recover.ensures.bytes c.recover.ensures.silent c.recover.ensures.stops c.recover.ensures.goes
    (c.follow_found.ensures c.in-Ok.ensures.rests)

pub returns-in-Err : goal.returns-in-Err
returns-in-Err g c tells tells_after =
    let feed = g.S.Source.feed c.args.source.now in
    let before = g.T.Site.sight c.args.site.now in
    let after = g.T.Site.sight c.recover.new.site in
    subst (FollowRun g.S.Source.tells g.T.Site.tells feed feed before after) (sym c.end_of_recovery.ensures)
    (run_unopened g.S.Source.tells g.T.Site.tells feed before after c.in-Err.no tells tells_after
    (λ told place why is. c.in-Err.ensures.damaged told place why (ap (λ (e : RecoverNo). Err e) is))
    c.in-Err.ensures.only
    (λ is. c.in-Err.ensures.fault (ap (λ (e : RecoverNo). Err e) is))
    c.recover.ensures.bytes
    (λ told not. c.in-Err.ensures.firm told (λ is. not (cc is)))
    c.recover.ensures.stops c.recover.ensures.silent c.recover.ensures.goes)
