use Rattle.std.specs.Prelude.{codes}
use Rattle.dali_gen.specs.Instructions.{account_name}
use Rattle.dali_gen.proofs.Texts.{three_added, on_ok}
use Rattle.dali_gen.proofs.opening.add_cash_of.Goals as goal

pub returns : goal.returns
returns c = on_ok c.add-2.result
    (three_added c.args.text.now c.add.new.self c.add_account.new.text c.add-2.new.self (codes "080000,ISSUE,") (account_name c.args.account) (codes ",MXN,1000000\n")
    c.in_ok-add.ensures.ok c.in_ok-add_account.ensures)
    c.add-2.ensures.ok
