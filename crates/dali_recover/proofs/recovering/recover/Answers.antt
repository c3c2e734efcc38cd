use Rattle.dali_recover.proofs.Spelling.{one_history}
use Rattle.dali_recover.proofs.Ending.{ok_spells, spelled, only}
use Rattle.dali_recover.proofs.recovering.recover.Goals as goal

pub returns-clause-spelled : goal.returns-clause-spelled
returns-clause-spelled g c told history spells =
    let old = g.T.Site.sight c.args.site.now in
    spelled old.bytes c.read_device.result (ok_spells old.size old (g.T.Site.sight c.read_device.new.site) c.read_device.result (c.read_device.ensures.bytes told) c.read_device.ensures.found (c.read_device.ensures.rests told))
    (c.read_device.ensures.damaged told) history spells

pub returns-clause-only : goal.returns-clause-only
returns-clause-only g c told place why is =
    let old = g.T.Site.sight c.args.site.now in
    only old.bytes c.read_device.result (ok_spells old.size old (g.T.Site.sight c.read_device.new.site) c.read_device.result (c.read_device.ensures.bytes told) c.read_device.ensures.found (c.read_device.ensures.rests told))
    (c.read_device.ensures.damaged told) place why is

pub returns-clause-one_history : goal.returns-clause-one_history
returns-clause-one_history g c image history other first second = one_history image history other first second
