use Rattle.dali_follow.proofs.Promised.{follow_promises}
use Rattle.dali_follow.proofs.follow.follow_stream.Goals as goal

pub returns-clause-run : goal.returns-clause-run
returns-clause-run g c = c.open_stream-end.ensures c.size-size.ensures.told c.size-size-2.ensures.told

pub returns-clause-promises : goal.returns-clause-promises
returns-clause-promises g c s_tells t_tells =
    follow_promises g.S.Source.tells g.T.Site.tells (g.S.Source.feed c.args.source.now) (g.S.Source.feed c.open_stream-end.new.source) (g.T.Site.sight c.args.site.now) (g.T.Site.sight c.open_stream-end.new.site) c.open_stream-end.result
    s_tells t_tells (c.open_stream-end.ensures c.size-size.ensures.told c.size-size-2.ensures.told)
