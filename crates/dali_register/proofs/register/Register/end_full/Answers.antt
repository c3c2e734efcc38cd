use Rattle.std.proofs.Common.{◌≡◌, ◌∙◌, ◌++◌, refl, sym, ap, subst, arith}
use Rattle.std.specs.Prelude.{Err}
use Rattle.dali_register.specs.Taking.{Took}
use Rattle.dali_register.proofs.Ending.{took_none, took_full, err_is}
use Rattle.dali_register.proofs.register.Register.end_full.Goals as goal

pub returns-in_err-flush-clause-took : goal.returns-in_err-flush-clause-took
returns-in_err-flush-clause-took g c before found added held e far edition next need =
    let told = g.T.Site.tells in
    let old = g.T.Site.sight c.args.site.now in
    let new = g.T.Site.sight c.flush.new.site in
    subst (Took told before found (added ++ held) e.line c.flush.new.self old new) (sym (err_is c.from_residual.result c.in_err-flush.field-0.0 c.from_residual.ensures.1))
    (took_none told before found added held e.line c.flush.new.self old new c.in_err-flush.field-0.0 far.spends c.in_err-flush.ensures.syncs (c.in_err-flush.ensures.flushed before found added held far.stands))

pub returns-clause-took : goal.returns-clause-took
returns-clause-took g c before found added held e far edition next need =
    let told = g.T.Site.tells in
    let old = g.T.Site.sight c.args.site.now in
    let new = g.T.Site.sight c.flush.new.site in
    let stands = c.in_ok-flush.ensures.flushed before found added held far.stands in
    took_full told before found added held e c.args.need c.left.result c.flush.new.self old new far.spends c.in_ok-flush.ensures.syncs stands (edition ∙ sym c.in_ok-flush.ensures.edition) next need c.left.ensures.value
    (omega (arith, c.left.ensures.value, c.in_ok-flush.ensures.left, c.requires.full))
