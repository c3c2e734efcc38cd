use Rattle.std.proofs.Common.{◌≡◌, ◌∙◌, ap, sym, subst, refl, None, [], ◌∷◌, ◌++◌, map, false}
use Rattle.std.specs.Map.{lookup}
use Rattle.indexmap.proofs.CallerLemmas.{insert_entry-new}
use Rattle.dali_base.specs.Readers.{same_bytes}
use Rattle.dali_queue.specs.Room.{QueueRoom}
use Rattle.dali_queue.specs.Queue.{is_queued}
use Rattle.dali_queue.specs.EntryList.{queued_of}
use Rattle.dali_queue.proofs.EntryLemmas.{Stored, absent, stored_push, queued_push}
use Rattle.dali_queue.proofs.entries.Entries.enter.Goals as goal

pub invariant_of-self : goal.invariant_of-self
invariant_of-self c =
    let none : lookup (same_bytes c.args.item.id) c.self.inside.entries.entries ≡ None =
    absent c.self.inside.entries.entries c.args.item.id c.self.invariant.each (ap (λ (r : QueueRoom). is_queued r.waiting c.args.item.id) c.self.view_is ∙ c.requires.new) in
    let entries = rw c.unwrap.ensures at c.insert.ensures.entries in
    record {
      each = subst Stored (sym (entries ∙ insert_entry-new same_bytes c.self.inside.entries c.args.item.id _ none))
          (stored_push c.self.inside.entries.entries c.args.item.id (record { item = c.args.item; group = c.args.item.id; leaving = false }) c.self.invariant.each refl refl);
    }

pub returns-clause-waiting : goal.returns-clause-waiting
returns-clause-waiting c =
    let none : lookup (same_bytes c.args.item.id) c.self.inside.entries.entries ≡ None =
    absent c.self.inside.entries.entries c.args.item.id c.self.invariant.each (ap (λ (r : QueueRoom). is_queued r.waiting c.args.item.id) c.self.view_is ∙ c.requires.new) in
    let entries = rw c.unwrap.ensures at c.insert.ensures.entries in
    ap (map queued_of) (entries ∙ insert_entry-new same_bytes c.self.inside.entries c.args.item.id _ none)
    ∙ queued_push c.self.inside.entries.entries (c.args.item.id, record { item = c.args.item; group = c.args.item.id; leaving = false })
    ∙ ap (λ (r : QueueRoom). r.waiting ++ record { item = c.args.item; group = c.args.item.id } ∷ []) c.self.view_is
