use Rattle.dali_problem.specs.declared.row.Effect.{Effect}
use Rattle.dali_fits.proofs.Rising.{pairs_up}
use Rattle.dali_check_rows.proofs.building.lines_rise.Goals as goal

pub returns : goal.returns
returns c = λ _. pairs_up (λ (e : Effect). e.line) c.args.effects.now c.loop-at.at c.loop-at-test.false c.loop-at.invariant.rises
