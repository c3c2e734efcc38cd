use Rattle.std.proofs.Common.{◌≡◌, ◌∙◌, refl, sym, ap, subst}
use Rattle.dali_outside.specs.Outside.{TellsAll}
use Rattle.dali_day.proofs.Promised.{day_promises}
use Rattle.dali_day.proofs.day.take_day.Goals as goal

pub returns-clause-day : goal.returns-clause-day
returns-clause-day g c = c.open_day-end.ensures c.size-size.ensures.told c.size-size-2.ensures.told

pub returns-clause-promises : goal.returns-clause-promises
returns-clause-promises g c s t =
    day_promises g.S.Source.tells g.T.Site.tells (g.S.Source.feed c.args.source.now) (g.S.Source.feed c.open_day-end.new.source) (g.T.Site.sight c.args.site.now) (g.T.Site.sight c.open_day-end.new.site) c.open_day-end.result s t
    (c.open_day-end.ensures c.size-size.ensures.told c.size-size-2.ensures.told)
