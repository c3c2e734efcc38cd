use Rattle.std.proofs.Common.{◌≡◌, ◌∙◌, ap, sym, None, arith, is_some}
use Rattle.dali_account.specs.Units.{units_of, with_units}
use Rattle.dali_account.specs.Holding.{Holding}
use Rattle.dali_account.proofs.UnitsLemmas.{found_units, absent_units, updated_units}
use Rattle.dali_account.proofs.holdings.Holdings.lower.Goals as goal

pub returns-in-None-clause-units : goal.returns-in-None-clause-units
returns-in-None-clause-units c =
    let none : 0 ≡ units_of c.args.self.now.units (c.args.account, c.args.asset) =
    found_units c.self.inside.lines.entries (c.args.account, c.args.asset) None c.in-None.ensures.value
    ∙ ap (λ (h : Holding). units_of h.units (c.args.account, c.args.asset)) c.self.view_is in
    rw c.get_mut.follows.holds-at-none
    (absent_units c.self.inside.lines.entries (c.args.account, c.args.asset) c.args.units (sym c.in-None.ensures.value) (omega (arith, none, c.requires))
    ∙ ap (λ (h : Holding). with_units h.units (c.args.account, c.args.asset) c.args.units) c.self.view_is)

pub returns-clause-units : goal.returns-clause-units
returns-clause-units c =
    let holds = c.get_mut.follows.holds c.args.units in
    updated_units c.self.inside.lines.entries (c.get_mut.follows.lender c.args.units).entries (c.args.account, c.args.asset) c.args.units
    (holds.3 (sym (ap is_some c.in-Some.ensures.value))).0
    ∙ ap (λ (h : Holding). with_units h.units (c.args.account, c.args.asset) c.args.units) c.self.view_is
