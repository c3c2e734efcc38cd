use Rattle.std.proofs.Common.{◌≡◌, ◌∙◌, ◌++◌, refl, sym, ap, subst}
use Rattle.dali_machine.specs.Step.{judged}
use Rattle.dali_register.proofs.Choosing.{asks_for}
use Rattle.dali_register.proofs.register.Register.take.Goals as goal

pub take_cycle-requires-clause-cycle : goal.take_cycle-requires-clause-cycle
take_cycle-requires-clause-cycle g c =
    asks_for c.args.self.now.state.machine (judged c.args.self.now.journal.edition c.args.self.now.state.machine c.args.line) c.in-Ok-Some.cycle
    (sym c.in-Ok-Some.field-0-is ∙ (rw c.edition.ensures.value at c.in-Ok-Some.ensures.found))

pub returns-in-Err-clause-took : goal.returns-in-Err-clause-took
returns-in-Err-clause-took g c before found added held far = c.end_wanting.ensures.took before found added held c.args.line far
