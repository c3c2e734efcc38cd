use Rattle.std.proofs.Common.{◌≡◌, ◌≤◌, ◌&&◌, ℕ, List, length, take}
use Rattle.std.specs.Prelude.{nat_lt}
use Rattle.std.specs.List.{list_any}
use Rattle.dali_base.specs.NameList.{knows}
use Rattle.dali_base.specs.Readers.{same_bytes}
use Rattle.dali_queue.specs.declared.entries.Entry.{Entry}
use Rattle.dali_queue.specs.Cutoffs.{cutoff_of}
use Rattle.dali_queue.proofs.eligible.late_groups.Given as goal

abbrev pub invariant-loop-entry : goal.invariant-loop-entry
invariant-loop-entry l = record {
  size : length l.late.names ≤ l.entry-index;
  known : (group : List ℕ) → knows l.late.names group ≡ list_any (λ (e : Entry). same_bytes group e.group && nat_lt (cutoff_of l.cutoffs e.item.kind) l.moment) (take l.entry-index l.entries);
}
