use Rattle.std.proofs.Common.{◌≡◌, ◌++◌, map, take, drop}
use Rattle.indexmap.specs.IndexMap.{spare}
use Rattle.dali_queue.specs.EntryList.{regrouped_entry}
use Rattle.dali_queue.proofs.entries.regroup_all.Given as goal

abbrev pub invariant-loop-place : goal.invariant-loop-place
invariant-loop-place l = record {
  entries : l.entries.entries ≡ map (regrouped_entry l.from l.to) (take l.place l.initial.entries.entries) ++ drop l.place l.initial.entries.entries;
  room : spare l.entries ≡ spare l.initial.entries;
}
