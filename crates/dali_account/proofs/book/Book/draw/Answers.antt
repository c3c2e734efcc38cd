use Rattle.std.proofs.Common.{◌≡◌, ◌-◌, Ok, refl, arith}
use Rattle.dali_account.specs.Book.{total_of}
use Rattle.dali_account.specs.declared.refusal.BookNo.{BookNo}
use Rattle.dali_account.proofs.TotalLemmas.{total_own, total_other}
use Rattle.dali_account.proofs.book.Book.draw.Goals as goal

pub returns-clause-total : goal.returns-clause-total
returns-clause-total c =
    let own : total_of c.lower_both.new.self.book c.args.asset ≡ c.standing-standing.result.total - c.args.quantity =
    total_own {T = Unit {0}} {E = BookNo} (Ok tt) c.args.self.now.book c.lower_both.new.self.book c.args.asset (c.standing-standing.result.total - c.args.quantity) c.lower_both.ensures.totals (c.standing-standing.result.total - c.args.quantity) refl in
    let total = c.standing-standing.ensures.total in
    let within = c.standing-standing.ensures.within in
    omega (arith, own, total, within, c.if-quantity-standing.false)

pub returns-clause-others : goal.returns-clause-others
returns-clause-others c =
    total_other {T = Unit {0}} {E = BookNo} (Ok tt) c.args.self.now.book c.lower_both.new.self.book c.args.asset (c.standing-standing.result.total - c.args.quantity) c.lower_both.ensures.totals
