use Rattle.std.proofs.Common.{◌≡◌, ◌∙◌, ◌++◌, [], refl, sym, ap, subst}
use Rattle.dali_journal.specs.JournalAt.{Reached}
use Rattle.dali_machine.specs.Machine.{Machine}
use Rattle.dali_register.specs.Cycling.{IsMadeOf}
use Rattle.dali_register.specs.Taking.{Took}
use Rattle.dali_register.proofs.Ending.{took_none, took_wanting, took_since, err_is}
use Rattle.dali_register.proofs.Holding.{stands_same, at_site_same}
use Rattle.dali_register.proofs.Spending.{spends_other}
use Rattle.dali_register.proofs.register.Register.take_cycle.Goals as goal

pub returns-in_err-flush-clause-took : goal.returns-in_err-flush-clause-took
returns-in_err-flush-clause-took g c before found added held far =
    let told = g.T.Site.tells in
    let old = g.T.Site.sight c.args.site.now in
    let new = g.T.Site.sight c.flush.new.site in
    subst (Took told before found (added ++ held) c.args.line c.flush.new.self old new) (sym (err_is c.from_residual.result c.in_err-flush.field-0.0 c.from_residual.ensures.1))
    (took_none told before found added held c.args.line c.flush.new.self old new c.in_err-flush.field-0.0 far.spends c.in_err-flush.ensures.syncs (c.in_err-flush.ensures.flushed before found added held far.stands))

pub add_cycle-requires-clause-at_site : goal.add_cycle-requires-clause-at_site
add_cycle-requires-clause-at_site g c =
    at_site_same c.flush.new.self c.make_cycle.new.self (g.T.Site.sight c.flush.new.site) c.in_ok-flush.ensures.at_site c.make_cycle.ensures.journal c.make_cycle.ensures.group

pub returns-in-Ok-clause-took : goal.returns-in-Ok-clause-took
returns-in-Ok-clause-took g c before found added held far =
    let told = g.T.Site.tells in
    let old = g.T.Site.sight c.args.site.now in
    let mid = g.T.Site.sight c.flush.new.site in
    let new = g.T.Site.sight c.add_cycle.new.site in
    took_since told before found (added ++ held) c.args.line c.add_cycle.new.self old mid new c.add_cycle.result c.in_ok-flush.ensures.goes
    (c.add_cycle.ensures.added before found (added ++ held) c.args.line
    (stands_same told before found (added ++ held) [] c.flush.new.self c.make_cycle.new.self mid (c.in_ok-flush.ensures.flushed before found added held far.stands)
    c.make_cycle.ensures.machine c.make_cycle.ensures.journal c.make_cycle.ensures.group c.make_cycle.ensures.replies)
    (spends_other before added held old mid far.spends c.in_ok-flush.ensures.syncs)
    (subst (λ (j : Reached). IsMadeOf j.edition c.make_cycle.new.self.state.machine c.args.line c.in-Ok.made.0) (sym c.make_cycle.ensures.journal)
    (subst (λ (m : Machine). IsMadeOf c.flush.new.self.journal.edition m c.args.line c.in-Ok.made.0) (sym c.make_cycle.ensures.machine) c.in-Ok.ensures.made)))

pub returns-in-Err-clause-took : goal.returns-in-Err-clause-took
returns-in-Err-clause-took g c before found added held far =
    let told = g.T.Site.tells in
    let old = g.T.Site.sight c.args.site.now in
    let mid = g.T.Site.sight c.flush.new.site in
    took_wanting told before found added held c.args.line c.make_cycle.new.self old mid far.spends c.in_ok-flush.ensures.syncs
    (stands_same told before found (added ++ held) [] c.flush.new.self c.make_cycle.new.self mid (c.in_ok-flush.ensures.flushed before found added held far.stands)
    c.make_cycle.ensures.machine c.make_cycle.ensures.journal c.make_cycle.ensures.group c.make_cycle.ensures.replies)
