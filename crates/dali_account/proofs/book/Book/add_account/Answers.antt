use Rattle.std.proofs.Common.{◌≤◌, ◌+◌, length, arith}
use Rattle.dali_account.specs.Limits.{most_accounts}
use Rattle.dali_account.proofs.KeptLemmas.{kept_account}
use Rattle.dali_account.proofs.book.Book.add_account.Goals as goal

pub invariant_of-self-2 : goal.invariant_of-self-2
invariant_of-self-2 c =
    let fit : length c.self.inside.accounts.names + 1 ≤ most_accounts = omega arith in
    rw c.in-Ok.ensures.ok
    (kept_account c.self.inside.accounts c.self.inside.assets c.self.inside.balances.units c.self.inside.earmarks.units c.args.account c.self.invariant fit)
