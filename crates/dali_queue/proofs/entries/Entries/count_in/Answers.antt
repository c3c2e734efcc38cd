use Rattle.std.proofs.Common.{◌∙◌, ap}
use Rattle.std.specs.List.{count_by}
use Rattle.dali_base.specs.Readers.{same_bytes}
use Rattle.dali_queue.specs.declared.entries.Entry.{Entry}
use Rattle.dali_queue.specs.Room.{QueueRoom}
use Rattle.dali_queue.specs.Groups.{in_group}
use Rattle.dali_queue.proofs.EntryLemmas.{count_queued}
use Rattle.dali_queue.proofs.entries.Entries.count_in.Goals as goal

pub returns : goal.returns
returns c = record {
  count = c.count_in.ensures ∙ ap (count_by (λ (e : Entry). same_bytes c.args.group e.group)) (c.as_slice.ensures ∙ c.values.ensures.rest)
      ∙ count_queued c.args.group c.self.inside.entries.entries ∙ ap (λ (r : QueueRoom). count_by (in_group c.args.group) r.waiting) c.self.view_is;
}
