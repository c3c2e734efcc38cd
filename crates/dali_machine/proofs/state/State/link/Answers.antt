use Rattle.std.proofs.Common.{ℕ, List, sym, subst}
use Rattle.dali_line.specs.declared.command.Verb.TheVariants as verbs
use Rattle.dali_machine.specs.Machine.{StateRecord}
use Rattle.dali_machine.specs.StateKept.{machine_of, record_of}
use Rattle.dali_machine.specs.Ready.{MayTake}
use Rattle.dali_queue.specs.Queue.{Queued}
use Rattle.std.specs.List.{All}
use Rattle.dali_machine.specs.Kept.{AreKnown}
use Rattle.dali_machine.proofs.Allowed.{IsLinkable, linkable}
use Rattle.dali_machine.proofs.Machines.{machine_queue, known_linked}
use Rattle.dali_machine.proofs.state.State.link.Goals as goal

may_link : (m : StateRecord) (first second : List ℕ) → MayTake m (verbs.Link first second) → (moment : ℕ) × IsLinkable m.machine moment first second
may_link m first second take = (take.moment, linkable m.machine take.moment first second take.allowed)

pub link-requires-clause-first : goal.link-requires-clause-first
link-requires-clause-first c = (may_link (record_of c.self.inside) c.args.first c.args.second (subst (λ s. MayTake s (verbs.Link c.args.first c.args.second)) (sym c.self.view_is) c.requires)).1.one

pub link-requires-clause-second : goal.link-requires-clause-second
link-requires-clause-second c = (may_link (record_of c.self.inside) c.args.first c.args.second (subst (λ s. MayTake s (verbs.Link c.args.first c.args.second)) (sym c.self.view_is) c.requires)).1.two

pub link-requires-clause-apart : goal.link-requires-clause-apart
link-requires-clause-apart c = (may_link (record_of c.self.inside) c.args.first c.args.second (subst (λ s. MayTake s (verbs.Link c.args.first c.args.second)) (sym c.self.view_is) c.requires)).1.apart

pub link-requires-clause-fits : goal.link-requires-clause-fits
link-requires-clause-fits c = (may_link (record_of c.self.inside) c.args.first c.args.second (subst (λ s. MayTake s (verbs.Link c.args.first c.args.second)) (sym c.self.view_is) c.requires)).1.fits

pub invariant_of-self : goal.invariant_of-self
invariant_of-self c = machine_queue (machine_of c.self.inside) c.self.invariant c.link.new.self.queue
    (subst (λ q. All (λ (w : Queued). AreKnown c.self.inside.book.book w.item) q.waiting) (sym c.link.ensures.queue) (known_linked (machine_of c.self.inside) c.self.invariant c.args.first c.args.second))
