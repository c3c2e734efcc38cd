use Rattle.std.proofs.Common.{arith}
use Rattle.dali_ship.proofs.Pieces.{printed, broken}
use Rattle.dali_ship.proofs.printing.print.Goals as goal

pub returns-in-Ok : goal.returns-in-Ok
returns-in-Ok g c text rest old far =
    printed g.T.Site.tells text c.args.bytes.now rest old (g.T.Site.sight c.args.site.now) far (g.T.Site.sight c.put.new.self) c.put.ensures.goes c.put.ensures.syncs
    c.in-Ok.ensures.text c.put.ensures.disk

pub returns-in-Err : goal.returns-in-Err
returns-in-Err g c text rest old far = (
  broken g.T.Site.tells text c.args.bytes.now rest old (g.T.Site.sight c.args.site.now) far (g.T.Site.sight c.put.new.self) c.put.ensures.goes c.put.ensures.syncs
      c.in-Err.ensures.text c.put.ensures.disk,
  let rose = c.in-Err.ensures.failed in let first = far.goes.print in omega (arith, rose, first),
)
