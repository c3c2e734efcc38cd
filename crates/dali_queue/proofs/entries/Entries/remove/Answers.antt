use Rattle.std.proofs.Common.{◌∙◌, ap, sym, subst, map, not}
use Rattle.std.specs.List.{filter}
use Rattle.dali_queue.specs.EntryList.{queued_of}
use Rattle.dali_queue.specs.Room.{QueueRoom}
use Rattle.dali_queue.specs.Queue.{removed}
use Rattle.dali_queue.proofs.EntryLemmas.{Stored}
use Rattle.dali_queue.proofs.ChangeLemmas.{stored_removed, queued_left}
use Rattle.dali_queue.proofs.entries.Entries.remove.Goals as goal

pub invariant_of-self : goal.invariant_of-self
invariant_of-self c = record {
  each = subst Stored (sym (c.drop_leaving.ensures.entries ∙ ap (filter (λ e. not e.1.leaving)) c.mark_all.ensures.entries))
      (stored_removed c.args.places.now 0 c.self.inside.entries.entries c.self.invariant.each);
}

pub returns-clause-waiting : goal.returns-clause-waiting
returns-clause-waiting c = ap (map queued_of) (c.drop_leaving.ensures.entries ∙ ap (filter (λ e. not e.1.leaving)) c.mark_all.ensures.entries)
    ∙ queued_left c.args.places.now 0 c.self.inside.entries.entries c.self.invariant.each
    ∙ ap (λ (r : QueueRoom). removed r.waiting c.args.places.now) c.self.view_is
