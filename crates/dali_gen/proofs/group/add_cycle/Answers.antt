use Rattle.std.specs.Prelude.{codes}
use Rattle.dali_base.specs.Spelling.{two_digits}
use Rattle.dali_gen.proofs.Texts.{two_added, on_ok}
use Rattle.dali_gen.proofs.group.add_cycle.Goals as goal

pub returns : goal.returns
returns c = on_ok c.add.result
    (two_added c.args.text.now c.add_two_digits.new.text c.add.new.self (two_digits c.args.hour) (codes "3000,CYCLE,40\n") c.in_ok-add_two_digits.ensures)
    c.add.ensures.ok
