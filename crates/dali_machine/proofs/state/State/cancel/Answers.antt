use Rattle.std.proofs.Common.{sym, ◌∙◌, subst}
use Rattle.dali_line.specs.declared.command.Verb.TheVariants as verbs
use Rattle.dali_machine.specs.StateKept.{machine_of, record_of}
use Rattle.dali_machine.specs.Ready.{MayTake}
use Rattle.dali_queue.specs.Queue.{Queued}
use Rattle.std.specs.List.{All}
use Rattle.dali_machine.specs.Kept.{AreKnown}
use Rattle.dali_machine.proofs.Allowed.{cancel_queued}
use Rattle.dali_machine.proofs.Machines.{machine_queue, known_without}
use Rattle.dali_machine.proofs.state.State.cancel.Goals as goal

pub unwrap-requires : goal.unwrap-requires
unwrap-requires c =
    let take : MayTake (record_of c.self.inside) (verbs.Cancel c.args.id) = subst (λ s. MayTake s (verbs.Cancel c.args.id)) (sym c.self.view_is) c.requires in
    c.cancel.ensures.gone ∙ cancel_queued (machine_of c.self.inside) take.moment c.args.id take.allowed

pub invariant_of-self : goal.invariant_of-self
invariant_of-self c = machine_queue (machine_of c.self.inside) c.self.invariant c.cancel.new.self.queue
    (subst (λ q. All (λ (w : Queued). AreKnown c.self.inside.book.book w.item) q.waiting) (sym c.cancel.ensures.queue) (known_without (machine_of c.self.inside) c.self.invariant c.args.id))
