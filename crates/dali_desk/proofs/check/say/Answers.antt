use Rattle.std.proofs.Common.{◌∙◌, ◌++◌, inl, inr, true, false, refl, ap}
use Rattle.dali_desk.proofs.Printing.{put_front}
use Rattle.dali_desk.proofs.Stopping.{put_stops}
use Rattle.dali_desk.proofs.check.say.Goals as goal

pub returns-in-Ok-put : goal.returns-in-Ok-put
returns-in-Ok-put g c =
    let before = g.T.Site.sight c.args.site.now in
    let after = g.T.Site.sight c.put.new.self in
    inl (record {
      verdict = c.in-Ok.verdict;
      text = c.bytes.result.now;
      says = record { of = c.in-Ok.ensures.verdict; line = c.bytes.ensures ∙ c.in-Ok-verdict_line.ensures };
      is = c.status_of_verdict.ensures;
      quiet = record { goes = c.put.ensures.goes; disk = c.put.ensures.disk; syncs = c.put.ensures.syncs };
      printed = λ told. (c.in-Ok-put.ensures.text told).printed ∙ ap (λ went. before.printed ++ went) ((c.in-Ok-put.ensures.text told).whole refl);
      stops = λ told. put_stops true c.bytes.result.now before after (c.in-Ok-put.ensures.text told) (c.put.ensures.disk told);
    })

pub returns : goal.returns
returns g c =
    let before = g.T.Site.sight c.args.site.now in
    let after = g.T.Site.sight c.put.new.self in
    inr (inl (
      refl,
      record {
        verdict = c.in-Ok.verdict;
        text = c.bytes.result.now;
        says = record { of = c.in-Ok.ensures.verdict; line = c.bytes.ensures ∙ c.in-Ok-verdict_line.ensures };
        rose = c.in-Err.ensures.failed;
        quiet = record { goes = c.put.ensures.goes; disk = c.put.ensures.disk; syncs = c.put.ensures.syncs };
        front = λ told. put_front false c.bytes.result.now before after (c.in-Err.ensures.text told);
        stops = λ told. put_stops false c.bytes.result.now before after (c.in-Err.ensures.text told) (c.put.ensures.disk told);
      },
    ))
