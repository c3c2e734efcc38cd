use Rattle.std.proofs.Common.{◌%◌, ◌∷◌}
use Rattle.std.specs.Prelude.{codes}
use Rattle.dali_gen.specs.Instructions.{account_name, code_name}
use Rattle.dali_gen.proofs.Texts.{four_added, on_ok}
use Rattle.dali_gen.proofs.opening.add_holding.Goals as goal

pub returns : goal.returns
returns c = on_ok c.add-2.result
    (four_added c.args.text.now c.add.new.self c.add_account.new.text c.add_code_field.new.text c.add-2.new.self
    (codes "080000,ISSUE,") (account_name (c.args.code % 12)) (44 ∷ code_name c.args.code) (codes ",1000\n")
    c.in_ok-add.ensures.ok c.in_ok-add_account.ensures c.in_ok-add_code_field.ensures)
    c.add-2.ensures.ok
