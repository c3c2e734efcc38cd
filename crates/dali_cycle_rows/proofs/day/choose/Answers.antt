use Rattle.std.proofs.Common.{◌∙◌, sym}
use Rattle.dali_machine.specs.Step.{judged}
use Rattle.dali_cycle_rows.proofs.Choosing.{has_choice}
use Rattle.dali_cycle_rows.proofs.day.choose.Goals as goal

pub returns-in_ok-solve_parts-in-Some : goal.returns-in_ok-solve_parts-in-Some
returns-in_ok-solve_parts-in-Some c =
    has_choice c.args.state.now.machine (judged c.args.edition c.args.state.now.machine c.args.line.now) c.in-Some.cycle c.in_ok-solve_parts-in-Some.field-0
    (sym c.in-Some.is ∙ c.in_ok-cycle.ensures.found) c.in_ok-solve_parts-in-Some.ensures.fits c.in_ok-solve_parts-in-Some.ensures.allowed
