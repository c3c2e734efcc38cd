use Rattle.std.proofs.Common.{◌+◌, ◌≤◌, List, ◌∙◌, ap, sym, subst}
use Rattle.dali_queue.specs.Queue.{Queued, QueueState}
use Rattle.dali_queue.specs.Groups.{same_group, group_size, MakesOne}
use Rattle.dali_queue.specs.Kept.{queue_of}
use Rattle.dali_queue.proofs.QueueLemmas.{queue_linked}
use Rattle.dali_queue.proofs.GroupLemmas.{makes_one}
use Rattle.dali_queue.proofs.queue.Queue.link.Goals as goal

pub invariant_of-self : goal.invariant_of-self
invariant_of-self c = rw c.regroup.ensures.waiting
    (queue_linked (queue_of c.self.inside) c.args.first c.args.second c.in-Some.to c.in-Some-group.from c.self.invariant
    (sym c.group.ensures ∙ c.in-Some.is) (sym c.group-2.ensures ∙ c.in-Some-group.is)
    (subst (λ (s : QueueState). group_size s.queue.waiting c.args.first + group_size s.queue.waiting c.args.second ≤ 8) (sym c.self.view_is) c.requires.fits))

pub returns-clause-one : goal.returns-clause-one
returns-clause-one c =
    let apart = ap (λ (s : QueueState). same_group s.queue.waiting c.args.first c.args.second) c.self.view_is ∙ c.requires.apart in
    subst (λ (s : QueueState). MakesOne s.queue.waiting c.regroup.new.self.waiting c.args.first c.args.second) c.self.view_is
    (subst (λ (ws : List Queued). MakesOne c.self.inside.entries.waiting ws c.args.first c.args.second) (sym c.regroup.ensures.waiting)
    (makes_one c.self.inside.entries.waiting c.args.first c.args.second c.in-Some.to c.in-Some-group.from
    (sym c.group.ensures ∙ c.in-Some.is) (sym c.group-2.ensures ∙ c.in-Some-group.is) apart))
