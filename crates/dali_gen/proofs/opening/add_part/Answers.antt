use Rattle.std.proofs.Common.{◌∷◌, []}
use Rattle.std.specs.Prelude.{codes}
use Rattle.dali_gen.specs.Instructions.{account_name}
use Rattle.dali_gen.proofs.Texts.{three_added, on_ok}
use Rattle.dali_gen.proofs.opening.add_part.Goals as goal

pub returns : goal.returns
returns c = on_ok c.push.result
    (three_added c.args.text.now c.add.new.self c.add_account.new.text c.push.new.self (codes "080000,PART,") (account_name c.args.account) (10 ∷ [])
    c.in_ok-add.ensures.ok c.in_ok-add_account.ensures)
    c.push.ensures.ok
