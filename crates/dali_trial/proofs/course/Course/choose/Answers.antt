use Rattle.std.proofs.Common.{◌∙◌, sym}
use Rattle.dali_machine.specs.Step.{judged}
use Rattle.dali_register.proofs.Choosing.{asks_for}
use Rattle.dali_trial.specs.Tried.{trial_edition}
use Rattle.dali_trial.proofs.Choosing.{own_choice, own_parts}
use Rattle.dali_trial.proofs.course.Course.choose.Goals as goal

pub returns-in_ok-solve_parts-in-Some-clause-choice : goal.returns-in_ok-solve_parts-in-Some-clause-choice
returns-in_ok-solve_parts-in-Some-clause-choice c =
    own_choice c.args.self.now.state.machine (judged trial_edition c.args.self.now.state.machine c.args.line.now) c.in-Some.cycle.0.problem c.in-Some.cycle.1 c.in_ok-solve_parts-in-Some.field-0
    (asks_for c.args.self.now.state.machine (judged trial_edition c.args.self.now.state.machine c.args.line.now) c.in-Some.cycle (sym c.in-Some.is ∙ c.in_ok-cycle.ensures.found))
    c.in_ok-solve_parts-in-Some.ensures.fits c.in_ok-solve_parts-in-Some.ensures.allowed

pub returns-in_ok-solve_parts-in-Some-clause-finest : goal.returns-in_ok-solve_parts-in-Some-clause-finest
returns-in_ok-solve_parts-in-Some-clause-finest c =
    own_parts c.args.self.now.state.machine (judged trial_edition c.args.self.now.state.machine c.args.line.now) c.in-Some.cycle.0.problem c.in-Some.cycle.1 c.in_ok-solve_parts-in-Some.field-0
    (asks_for c.args.self.now.state.machine (judged trial_edition c.args.self.now.state.machine c.args.line.now) c.in-Some.cycle (sym c.in-Some.is ∙ c.in_ok-cycle.ensures.found))
    c.in_ok-solve_parts-in-Some.ensures.finest
