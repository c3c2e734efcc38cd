use Rattle.std.proofs.Common.{◌∙◌, ap, position}
use Rattle.dali_base.specs.Readers.{same_bytes}
use Rattle.dali_queue.specs.Room.{QueueRoom}
use Rattle.dali_queue.specs.Queue.{is_queued, place_in}
use Rattle.dali_queue.proofs.EntryLemmas.{keys_are_ids, there_is}
use Rattle.dali_queue.proofs.entries.Entries.place.Goals as goal

pub returns-clause-place : goal.returns-clause-place
returns-clause-place c = c.get_index_of.ensures.index ∙ ap (position (same_bytes c.args.id)) (keys_are_ids c.self.inside.entries.entries c.self.invariant.each)
    ∙ ap (λ (r : QueueRoom). place_in r.waiting c.args.id) c.self.view_is

pub returns-clause-queued : goal.returns-clause-queued
returns-clause-queued c = c.get_index_of.ensures.found ∙ there_is c.self.inside.entries.entries c.args.id c.self.invariant.each
    ∙ ap (λ (r : QueueRoom). is_queued r.waiting c.args.id) c.self.view_is
