use Rattle.std.proofs.Common.{◌≡◌, ◌∙◌, List, ℕ, ◌++◌, true, false, refl, ap, subst}
use Rattle.dali_outside.specs.Stops.{LeavesOnly}
use Rattle.dali_put.specs.PutRun.{PrintsSome, LeavesSome}
use Rattle.dali_put.proofs.Stopping.{put_some, put_stops}
use Rattle.dali_put.proofs.putting.put.Goals as goal

pub returns-in-Ok-clause-run : goal.returns-in-Ok-clause-run
returns-in-Ok-clause-run g c = record {
  text_at = λ told. (c.in-Ok.ensures.text told).printed
      ∙ ap (λ (xs : List ℕ). (g.T.Site.sight c.args.site.now).printed ++ xs) ((c.in-Ok.ensures.text told).whole refl ∙ c.bytes.ensures);
  stops = λ told. subst (λ (p : List ℕ). LeavesOnly (LeavesSome (g.T.Site.sight c.args.site.now) p) (g.T.Site.sight c.args.site.now) (g.T.Site.sight c.put.new.self)) c.bytes.ensures
      (put_stops true c.bytes.result.now (g.T.Site.sight c.args.site.now) (g.T.Site.sight c.put.new.self) (c.in-Ok.ensures.text told) (c.put.ensures.disk told));
  disk = c.put.ensures.disk;
  syncs = c.put.ensures.syncs;
  goes = c.put.ensures.goes;
  print_fault = λ is. absurd (cc);
  untouched = λ is. absurd (cc);
}

pub returns-in-Err-clause-run : goal.returns-in-Err-clause-run
returns-in-Err-clause-run g c = record {
  text_at = λ told. subst (λ (p : List ℕ). PrintsSome p (g.T.Site.sight c.args.site.now).printed (g.T.Site.sight c.put.new.self).printed) c.bytes.ensures
      (put_some false c.bytes.result.now (g.T.Site.sight c.args.site.now) (g.T.Site.sight c.put.new.self) (c.in-Err.ensures.text told));
  stops = λ told. subst (λ (p : List ℕ). LeavesOnly (LeavesSome (g.T.Site.sight c.args.site.now) p) (g.T.Site.sight c.args.site.now) (g.T.Site.sight c.put.new.self)) c.bytes.ensures
      (put_stops false c.bytes.result.now (g.T.Site.sight c.args.site.now) (g.T.Site.sight c.put.new.self) (c.in-Err.ensures.text told) (c.put.ensures.disk told));
  disk = c.put.ensures.disk;
  syncs = c.put.ensures.syncs;
  goes = c.put.ensures.goes;
  print_fault = λ _. c.in-Err.ensures.failed;
  untouched = λ is. absurd (cc);
}
