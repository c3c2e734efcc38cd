use Rattle.std.proofs.Common.{sym, subst}
use Rattle.dali_desk.specs.CheckRun.{CheckRun}
use Rattle.dali_desk.specs.Judging.{Judges}
use Rattle.dali_desk.proofs.Checking.{unread, read_judged}
use Rattle.dali_desk.proofs.check.check_input.Goals as goal

pub returns-in-Ok : goal.returns-in-Ok
returns-in-Ok g c =
    let before = g.T.Site.sight c.args.site.now in
    let after = g.T.Site.sight c.say.new.site in
    read_judged g.S.Source.tells g.T.Site.tells (g.S.Source.feed c.args.source.now) (g.S.Source.feed c.read_input.new.source) c.in-Ok.input c.in-Ok.ensures before after c.say.result
    (subst (λ bytes. Judges g.T.Site.tells bytes before after c.say.result) c.bytes.ensures c.say.ensures)

pub returns-in-Err : goal.returns-in-Err
returns-in-Err g c =
    let old = g.S.Source.feed c.args.source.now in
    let new = g.S.Source.feed c.read_input.new.source in
    let sight = g.T.Site.sight c.args.site.now in
    subst (CheckRun g.S.Source.tells g.T.Site.tells old new sight sight) (sym c.status_of_unread.ensures)
    (unread g.S.Source.tells g.T.Site.tells old new sight c.in-Err.no c.in-Err.ensures)
