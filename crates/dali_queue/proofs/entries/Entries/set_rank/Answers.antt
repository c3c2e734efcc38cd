use Rattle.std.proofs.Common.{◌∙◌, ap, sym, subst, map}
use Rattle.dali_queue.specs.EntryList.{queued_of}
use Rattle.dali_queue.specs.Room.{QueueRoom}
use Rattle.dali_queue.specs.Queue.{ranked}
use Rattle.dali_queue.proofs.EntryLemmas.{Stored}
use Rattle.dali_queue.proofs.ChangeLemmas.{ranked_entry, ranked_absent, ranked_set, stored_set}
use Rattle.dali_queue.proofs.entries.Entries.set_rank.Goals as goal

pub returns-in-None-clause-waiting : goal.returns-in-None-clause-waiting
returns-in-None-clause-waiting c = rw c.get_mut.follows.holds-at-none
    (ranked_absent c.self.inside.entries.entries c.args.id c.args.rank c.self.invariant.each (sym c.in-None.ensures.value)
    ∙ ap (λ (r : QueueRoom). ranked r.waiting c.args.id c.args.rank) c.self.view_is)

pub invariant_of-self : goal.invariant_of-self
invariant_of-self c = rw c.get_mut.follows.holds-at-none c.self.invariant

pub invariant_of-self-2 : goal.invariant_of-self-2
invariant_of-self-2 c =
    let entry = c.in-Some.entry.now in
    record {
      each = subst Stored (sym (c.get_mut.follows.holds (ranked_entry entry c.args.rank)).0)
          (stored_set c.self.inside.entries.entries c.args.id c.args.rank entry c.self.invariant.each (sym c.in-Some.ensures.value));
    }

pub returns-clause-waiting : goal.returns-clause-waiting
returns-clause-waiting c =
    let entry = c.in-Some.entry.now in
    ap (map queued_of) (c.get_mut.follows.holds (ranked_entry entry c.args.rank)).0
    ∙ ranked_set c.self.inside.entries.entries c.args.id c.args.rank entry c.self.invariant.each c.get_mut.ensures.unique (sym c.in-Some.ensures.value)
    ∙ ap (λ (r : QueueRoom). ranked r.waiting c.args.id c.args.rank) c.self.view_is
