use Rattle.std.proofs.Common.{sym, ap, ◌∙◌}
use Rattle.dali_queue.specs.Instruction.{IsInstruction}
use Rattle.dali_queue.specs.Queue.{item_of}
use Rattle.dali_machine.specs.Machine.{StateRecord}
use Rattle.dali_machine.proofs.Placing.{at_place, found_ref}
use Rattle.dali_machine.proofs.state.State.queued.Goals as goal

pub returns-in-Some-clause-item : goal.returns-in-Some-clause-item
returns-in-Some-clause-item c = c.at.ensures.value ∙ at_place c.self.inside.queue.queue.waiting c.args.id c.in-Some.place (sym c.place.ensures.place ∙ c.in-Some.is)
    ∙ ap (λ (s : StateRecord). item_of s.machine.queue.waiting c.args.id) c.self.view_is

pub returns-in-Some-clause-bounds : goal.returns-in-Some-clause-bounds
returns-in-Some-clause-bounds c = found_ref IsInstruction c.self.inside.queue.queue.waiting c.args.id c.at.result c.at.ensures.queue.items
    (c.at.ensures.value ∙ at_place c.self.inside.queue.queue.waiting c.args.id c.in-Some.place (sym c.place.ensures.place ∙ c.in-Some.is))
