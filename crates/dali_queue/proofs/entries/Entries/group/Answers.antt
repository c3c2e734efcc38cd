use Rattle.std.proofs.Common.{◌∙◌, ap}
use Rattle.std.specs.Option.{option_map}
use Rattle.dali_queue.specs.declared.entries.Entry.{Entry}
use Rattle.dali_queue.specs.Room.{QueueRoom}
use Rattle.dali_queue.specs.Groups.{group_of}
use Rattle.dali_queue.proofs.EntryLemmas.{found_group}
use Rattle.dali_queue.proofs.entries.Entries.group.Goals as goal

pub returns-in-Some : goal.returns-in-Some
returns-in-Some c = ap (option_map (λ (e : Entry). e.group)) c.in-Some.ensures.value ∙ found_group c.self.inside.entries.entries c.args.id c.self.invariant.each
    ∙ ap (λ (r : QueueRoom). group_of r.waiting c.args.id) c.self.view_is

pub returns-in-None : goal.returns-in-None
returns-in-None c = ap (option_map (λ (e : Entry). e.group)) c.in-None.ensures.value ∙ found_group c.self.inside.entries.entries c.args.id c.self.invariant.each
    ∙ ap (λ (r : QueueRoom). group_of r.waiting c.args.id) c.self.view_is
