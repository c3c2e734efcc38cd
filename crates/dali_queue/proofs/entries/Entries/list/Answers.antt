use Rattle.std.proofs.Common.{◌∙◌, ap}
use Rattle.dali_queue.specs.Eligible.{waiting_of}
use Rattle.dali_queue.specs.Room.{QueueRoom}
use Rattle.dali_queue.proofs.DraftLemmas.{listed_waiting}
use Rattle.dali_queue.proofs.entries.Entries.list.Goals as goal

pub returns : goal.returns
returns c = ap waiting_of (c.as_slice.ensures ∙ c.values.ensures.rest) ∙ listed_waiting c.self.inside.entries.entries ∙ ap (λ (r : QueueRoom). r.waiting) c.self.view_is
