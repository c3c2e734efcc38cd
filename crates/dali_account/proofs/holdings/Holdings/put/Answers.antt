use Rattle.std.proofs.Common.{◌≡◌, ◌∙◌, ap, sym, None, arith}
use Rattle.dali_account.specs.Units.{units_of, with_units}
use Rattle.dali_account.specs.Holding.{Holding}
use Rattle.dali_account.proofs.UnitsLemmas.{found_units, updated_units}
use Rattle.dali_account.proofs.holdings.Holdings.put.Goals as goal

pub returns-in_err-insert-clause-held : goal.returns-in_err-insert-clause-held
returns-in_err-insert-clause-held c held =
    let none : 0 ≡ units_of c.args.self.now.units (c.args.account, c.args.asset) =
    found_units c.self.inside.lines.entries (c.args.account, c.args.asset) None (sym c.in_err-insert.ensures.absent)
    ∙ ap (λ (h : Holding). units_of h.units (c.args.account, c.args.asset)) c.self.view_is in
    absurd (omega (arith, none, held))

pub returns-clause-ok : goal.returns-clause-ok
returns-clause-ok c = updated_units c.self.inside.lines.entries c.insert.new.self.entries (c.args.account, c.args.asset) c.args.units c.in_ok-insert.ensures.updates.0
    ∙ ap (λ (h : Holding). with_units h.units (c.args.account, c.args.asset) c.args.units) c.self.view_is
