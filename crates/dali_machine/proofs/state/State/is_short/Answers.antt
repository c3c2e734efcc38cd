use Rattle.std.proofs.Common.{◌≡◌, true, false, ◌||◌, sym, ap, ◌∙◌}
use Rattle.std.specs.Prelude.{nat_lt}
use Rattle.dali_account.specs.Book.{cash, balance_of}
use Rattle.dali_machine.specs.Machine.{StateRecord}
use Rattle.dali_machine.specs.Refusals.{is_short}
use Rattle.dali_machine.proofs.Shortness.{short_is, less_told, more_told}
use Rattle.dali_machine.proofs.state.State.is_short.Goals as goal

pub returns-then-balance-item : goal.returns-then-balance-item
returns-then-balance-item c =
    let few : nat_lt (balance_of c.self.inside.book.book c.args.item.now.giver c.args.item.now.code) c.args.item.now.quantity ≡ true =
    ap (λ n. nat_lt n c.args.item.now.quantity) (sym c.balance.ensures.balance) ∙ less_told c.balance.result c.args.item.now.quantity c.if-balance-item.true in
    less_told c.balance.result c.args.item.now.quantity c.if-balance-item.true ∙ sym (short_is c.self.inside.book.book c.args.item.now c.requires
    ∙ ap (λ b. b || nat_lt (balance_of c.self.inside.book.book c.args.item.now.taker cash) c.args.item.now.cash) few)
    ∙ ap (λ (s : StateRecord). is_short s.machine.book c.args.item.now) c.self.view_is

pub returns-else-balance-item : goal.returns-else-balance-item
returns-else-balance-item c =
    let enough : nat_lt (balance_of c.self.inside.book.book c.args.item.now.giver c.args.item.now.code) c.args.item.now.quantity ≡ false =
    ap (λ n. nat_lt n c.args.item.now.quantity) (sym c.balance.ensures.balance) ∙ more_told c.balance.result c.args.item.now.quantity c.if-balance-item.false in
    ap (λ n. nat_lt n c.args.item.now.cash) (c.balance-else-balance-item.ensures.balance ∙ ap (balance_of c.self.inside.book.book c.args.item.now.taker) c.cash_name.ensures)
    ∙ sym (short_is c.self.inside.book.book c.args.item.now c.requires
    ∙ ap (λ b. b || nat_lt (balance_of c.self.inside.book.book c.args.item.now.taker cash) c.args.item.now.cash) enough)
    ∙ ap (λ (s : StateRecord). is_short s.machine.book c.args.item.now) c.self.view_is
