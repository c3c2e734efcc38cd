use Rattle.dali_queue.proofs.NetLemmas.{after_next, net_done}
use Rattle.std.proofs.Common.{◌≡◌, ◌++◌, ◌∷◌, ◌∙◌, ap, sym}
use Rattle.dali_queue.specs.Changed.{moves_of}
use Rattle.dali_queue.proofs.changes.Changes.net.Goals as goal

pub push_change-requires : goal.push_change-requires
push_change-requires c apart =
    let next : c.loop-pair.pair-iterator ≡ (c.in-Some.pair.now, c.in-Some.delta.now) ∷ c.next.new.self = c.in-Some.ensures.steps in
    after_next c.args.self.now.deltas.entries c.loop-pair.net (c.in-Some.pair.now, c.in-Some.delta.now) c.next.new.self c.iter-pair-items.ensures.ordered
    (ap (λ es. c.loop-pair.net ++ moves_of es) (sym next) ∙ c.loop-pair.invariant.whole) apart

pub returns : goal.returns
returns c = net_done c.args.self.now.deltas c.loop-pair.net c.loop-pair.pair-iterator c.iter-pair-items.ensures.ordered c.loop-pair.invariant.whole c.in-None.ensures.steps.0
