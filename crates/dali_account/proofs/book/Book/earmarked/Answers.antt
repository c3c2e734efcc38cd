use Rattle.std.proofs.Common.{◌≤◌, arith, subst}
use Rattle.dali_account.specs.Book.{BookState, total_of}
use Rattle.dali_account.proofs.KeptLemmas.{units_le_held}
use Rattle.dali_account.proofs.book.Book.earmarked.Goals as goal

pub returns-clause-within : goal.returns-clause-within
returns-clause-within c =
    let within = units_le_held c.self.inside.accounts.names c.self.inside.assets c.self.inside.balances.units c.self.inside.earmarks.units c.args.account c.args.asset c.self.invariant in
    let units = c.units.ensures.units in
    subst (λ (s : BookState). c.units.result ≤ total_of s.book c.args.asset) c.self.view_is (omega (arith, within, units))
