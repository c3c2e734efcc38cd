use Rattle.std.proofs.Common.{◌∙◌, ap, sym, subst, map}
use Rattle.dali_queue.specs.EntryList.{queued_of}
use Rattle.dali_queue.specs.Room.{QueueRoom}
use Rattle.dali_queue.specs.Groups.{regrouped}
use Rattle.dali_queue.proofs.EntryLemmas.{Stored}
use Rattle.dali_queue.proofs.ChangeLemmas.{stored_regrouped, queued_regrouped}
use Rattle.dali_queue.proofs.entries.Entries.regroup.Goals as goal

pub invariant_of-self : goal.invariant_of-self
invariant_of-self c = record { each = subst Stored (sym c.regroup_all.ensures.entries) (stored_regrouped c.args.from c.args.to c.self.inside.entries.entries c.self.invariant.each) }

pub returns-clause-waiting : goal.returns-clause-waiting
returns-clause-waiting c = ap (map queued_of) c.regroup_all.ensures.entries ∙ queued_regrouped c.args.from c.args.to c.self.inside.entries.entries
    ∙ ap (λ (r : QueueRoom). regrouped r.waiting c.args.from c.args.to) c.self.view_is
