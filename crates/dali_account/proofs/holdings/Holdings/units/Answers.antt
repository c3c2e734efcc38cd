use Rattle.std.proofs.Common.{◌∙◌, ap, None, Some}
use Rattle.dali_account.specs.Units.{units_of}
use Rattle.dali_account.specs.Holding.{Holding}
use Rattle.dali_account.proofs.UnitsLemmas.{found_units}
use Rattle.dali_account.proofs.holdings.Holdings.units.Goals as goal

pub returns-in-Some-clause-units : goal.returns-in-Some-clause-units
returns-in-Some-clause-units c = found_units c.self.inside.lines.entries (c.args.account, c.args.asset) (Some c.in-Some.units.now) c.in-Some.ensures.value
    ∙ ap (λ (h : Holding). units_of h.units (c.args.account, c.args.asset)) c.self.view_is

pub returns-in-None-clause-units : goal.returns-in-None-clause-units
returns-in-None-clause-units c = found_units c.self.inside.lines.entries (c.args.account, c.args.asset) None c.in-None.ensures.value
    ∙ ap (λ (h : Holding). units_of h.units (c.args.account, c.args.asset)) c.self.view_is
