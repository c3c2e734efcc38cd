use Rattle.std.proofs.Common.{◌≡◌, sym, subst}
use Rattle.std.specs.List.{All}
use Rattle.std.specs.Result.{OnOk}
use Rattle.dali_queue.specs.Queue.{Queued, QueueRecord, entered}
use Rattle.dali_machine.specs.Kept.{AreKnown}
use Rattle.dali_machine.specs.StateKept.{machine_of, record_of}
use Rattle.dali_machine.specs.Ready.{MayEnter}
use Rattle.dali_machine.proofs.Machines.{machine_queue, known_entered}
use Rattle.dali_machine.proofs.state.State.enter.Goals as goal

pub invariant_of-self : goal.invariant_of-self
invariant_of-self c =
    let may : MayEnter (record_of c.self.inside) c.args.item = subst (λ s. MayEnter s c.args.item) (sym c.self.view_is) c.requires in
    let queue : c.enter.new.self.queue ≡ entered c.self.inside.queue.queue c.args.item =
    subst (λ r. OnOk r (c.enter.new.self.queue ≡ entered c.self.inside.queue.queue c.args.item)) c.unwrap.ensures c.enter.ensures.ok in
    machine_queue (machine_of c.self.inside) c.self.invariant c.enter.new.self.queue
    (subst (λ (q : QueueRecord). All (λ (w : Queued). AreKnown c.self.inside.book.book w.item) q.waiting) (sym queue) (known_entered (machine_of c.self.inside) c.self.invariant c.args.item may.known))
