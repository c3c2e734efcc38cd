use Rattle.std.proofs.Common.{◌≡◌, sym, subst}
use Rattle.dali_day.specs.SoFar.{EndsSo}
use Rattle.dali_day.proofs.Closing.{ends_flushed, ends_unflushed}
use Rattle.dali_day.proofs.taking.end_with.Goals as goal

pub returns-in-Ok-clause-ended : goal.returns-in-Ok-clause-ended
returns-in-Ok-clause-ended g c s old new before found added held finishes =
    ends_flushed s g.T.Site.tells old new before found added held c.args.register.now c.flush.new.self (g.T.Site.sight c.args.site.now) (g.T.Site.sight c.flush.new.site) c.args.end finishes
    c.in-Ok.ensures.edition c.in-Ok.ensures.goes c.in-Ok.ensures.syncs (c.in-Ok.ensures.flushed before found added held finishes.so_far.stands)

pub returns-in-Err-clause-ended : goal.returns-in-Err-clause-ended
returns-in-Err-clause-ended g c s old new before found added held finishes =
    subst (EndsSo s g.T.Site.tells old new before (g.T.Site.sight c.flush.new.site)) (sym c.end_of_register.ensures)
    (ends_unflushed s g.T.Site.tells old new before found added held c.args.register.now c.flush.new.self (g.T.Site.sight c.args.site.now) (g.T.Site.sight c.flush.new.site) c.args.end finishes
    c.in-Err.ensures.edition c.in-Err.ensures.goes c.in-Err.ensures.syncs c.in-Err.no (c.in-Err.ensures.flushed before found added held finishes.so_far.stands))
