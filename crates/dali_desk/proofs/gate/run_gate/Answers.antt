use Rattle.std.proofs.Common.{refl}
use Rattle.std.specs.Prelude.{Ok, Err}
use Rattle.dali_desk.proofs.Gating.{gated}
use Rattle.dali_desk.proofs.gate.run_gate.Goals as goal

pub returns-in-Ok : goal.returns-in-Ok
returns-in-Ok g c =
    gated g.S.Source.tells g.T.Site.tells (g.S.Source.feed c.args.source.now) (g.S.Source.feed c.read_input.new.source) (g.T.Site.sight c.args.site.now)
    (g.T.Site.sight c.take_merge.new.site) c.take_merge.result (Ok c.in-Ok.input) c.in-Ok.ensures c.take_merge.ensures

pub returns-in-Err : goal.returns-in-Err
returns-in-Err g c =
    gated g.S.Source.tells g.T.Site.tells (g.S.Source.feed c.args.source.now) (g.S.Source.feed c.read_input.new.source) (g.T.Site.sight c.args.site.now)
    (g.T.Site.sight c.args.site.now) c.status_of_unread.result (Err c.in-Err.no) c.in-Err.ensures (c.status_of_unread.ensures, refl)
