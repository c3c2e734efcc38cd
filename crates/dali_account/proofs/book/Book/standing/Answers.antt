use Rattle.std.proofs.Common.{arith}
use Rattle.dali_account.proofs.KeptLemmas.{units_le_held}
use Rattle.dali_account.proofs.book.Book.standing.Goals as goal

pub returns-clause-within : goal.returns-clause-within
returns-clause-within c =
    let within = units_le_held c.self.inside.accounts.names c.self.inside.assets c.self.inside.balances.units c.self.inside.earmarks.units c.args.account c.args.asset c.self.invariant in
    let balance = c.units.ensures.units in
    let earmark = c.units-2.ensures.units in
    let total = c.total.ensures in
    let sums = c.self.invariant.totals c.args.asset in
    omega (arith, within, balance, earmark, total, sums)
