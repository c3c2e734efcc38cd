use Rattle.dali_account.proofs.TotalLemmas.{total_same}
use Rattle.dali_account.proofs.book.Book.earmark.Goals as goal

pub returns-clause-totals : goal.returns-clause-totals
returns-clause-totals c =
    total_same c.raise_earmark.result c.args.self.now.book c.raise_earmark.new.self.book c.args.asset c.standing-standing.result.total c.raise_earmark.ensures.totals c.standing-standing.ensures.total
