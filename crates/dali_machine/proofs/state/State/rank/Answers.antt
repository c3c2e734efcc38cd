use Rattle.std.proofs.Common.{sym, subst}
use Rattle.dali_line.specs.declared.command.Verb.TheVariants as verbs
use Rattle.dali_machine.specs.StateKept.{machine_of, record_of}
use Rattle.dali_machine.specs.Ready.{MayTake}
use Rattle.dali_queue.specs.Queue.{Queued}
use Rattle.std.specs.List.{All}
use Rattle.dali_machine.specs.Kept.{AreKnown}
use Rattle.dali_machine.proofs.Allowed.{rank_queued}
use Rattle.dali_machine.proofs.Machines.{machine_queue, known_ranked}
use Rattle.dali_machine.proofs.state.State.rank.Goals as goal

pub set_rank-requires-clause-queued : goal.set_rank-requires-clause-queued
set_rank-requires-clause-queued c =
    let take : MayTake (record_of c.self.inside) (verbs.Rank c.args.id c.args.rank) = subst (λ s. MayTake s (verbs.Rank c.args.id c.args.rank)) (sym c.self.view_is) c.requires in
    rank_queued (machine_of c.self.inside) take.moment c.args.id c.args.rank take.allowed

pub invariant_of-self : goal.invariant_of-self
invariant_of-self c = machine_queue (machine_of c.self.inside) c.self.invariant c.set_rank.new.self.queue
    (subst (λ q. All (λ (w : Queued). AreKnown c.self.inside.book.book w.item) q.waiting) (sym c.set_rank.ensures.queue) (known_ranked (machine_of c.self.inside) c.self.invariant c.args.id c.args.rank))
