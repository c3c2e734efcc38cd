use Rattle.std.proofs.Common.{◌∙◌, ap, sym, subst, map}
use Rattle.std.specs.Option.{option_map}
use Rattle.std.specs.Map.{lookup}
use Rattle.dali_base.specs.Readers.{same_bytes}
use Rattle.dali_queue.specs.declared.entries.Entry.{Entry}
use Rattle.dali_queue.specs.EntryList.{queued_of}
use Rattle.dali_queue.specs.Room.{QueueRoom}
use Rattle.dali_queue.specs.Queue.{item_of, without}
use Rattle.dali_queue.proofs.EntryLemmas.{Stored, found_item, stored_removed, queued_removed}
use Rattle.dali_queue.proofs.entries.Entries.take.Goals as goal

pub returns-in_err-entry-clause-value : goal.returns-in_err-entry-clause-value
returns-in_err-entry-clause-value c = c.from_residual.ensures ∙ ap (option_map (λ (e : Entry). e.item)) c.in_err-entry.ensures.value ∙ found_item c.self.inside.entries.entries c.args.id c.self.invariant.each
    ∙ ap (λ (r : QueueRoom). item_of r.waiting c.args.id) c.self.view_is

pub returns-in_err-entry-clause-waiting : goal.returns-in_err-entry-clause-waiting
returns-in_err-entry-clause-waiting c =
    let entries = c.shift_remove.ensures.entries in
    ap (map queued_of) entries ∙ queued_removed c.self.inside.entries.entries c.args.id c.self.invariant.each (ap (lookup (same_bytes c.args.id)) (sym entries) ∙ c.shift_remove.ensures.updates.1)
    ∙ ap (λ (r : QueueRoom). without r.waiting c.args.id) c.self.view_is

pub invariant_of-self-2 : goal.invariant_of-self-2
invariant_of-self-2 c = record { each = subst Stored (sym c.shift_remove.ensures.entries) (stored_removed (same_bytes c.args.id) c.self.inside.entries.entries c.self.invariant.each) }

pub returns-clause-value : goal.returns-clause-value
returns-clause-value c = ap (option_map (λ (e : Entry). e.item)) c.in_ok-entry.ensures.value ∙ found_item c.self.inside.entries.entries c.args.id c.self.invariant.each
    ∙ ap (λ (r : QueueRoom). item_of r.waiting c.args.id) c.self.view_is

pub returns-clause-waiting : goal.returns-clause-waiting
returns-clause-waiting c =
    let entries = c.shift_remove.ensures.entries in
    ap (map queued_of) entries ∙ queued_removed c.self.inside.entries.entries c.args.id c.self.invariant.each (ap (lookup (same_bytes c.args.id)) (sym entries) ∙ c.shift_remove.ensures.updates.1)
    ∙ ap (λ (r : QueueRoom). without r.waiting c.args.id) c.self.view_is
