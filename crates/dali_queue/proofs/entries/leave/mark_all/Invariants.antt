use Rattle.std.proofs.Common.{◌≡◌, take}
use Rattle.indexmap.specs.IndexMap.{spare}
use Rattle.dali_queue.specs.EntryList.{marked}
use Rattle.dali_queue.proofs.entries.leave.mark_all.Given as goal

abbrev pub invariant-loop-place : goal.invariant-loop-place
invariant-loop-place l = record {
  entries : l.entries.entries ≡ marked (take l.place-index l.places) 0 l.initial.entries.entries;
  room : spare l.entries ≡ spare l.initial.entries;
}
