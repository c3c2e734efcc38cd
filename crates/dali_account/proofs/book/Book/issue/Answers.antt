use Rattle.std.proofs.Common.{◌+◌, ap}
use Rattle.dali_account.specs.Book.{total_of}
use Rattle.dali_account.proofs.TotalLemmas.{total_own, total_other}
use Rattle.dali_account.proofs.book.Book.issue.Goals as goal

pub returns-clause-total : goal.returns-clause-total
returns-clause-total c =
    total_own c.raise_balance.result c.args.self.now.book c.raise_balance.new.self.book c.args.asset (c.standing-standing.result.total + c.args.quantity) c.raise_balance.ensures.totals
    (total_of c.args.self.now.book c.args.asset + c.args.quantity) (ap (λ n. n + c.args.quantity) c.standing-standing.ensures.total)

pub returns-clause-others : goal.returns-clause-others
returns-clause-others c =
    total_other c.raise_balance.result c.args.self.now.book c.raise_balance.new.self.book c.args.asset (c.standing-standing.result.total + c.args.quantity) c.raise_balance.ensures.totals
