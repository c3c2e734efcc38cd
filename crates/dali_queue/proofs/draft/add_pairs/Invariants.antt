use Rattle.std.proofs.Common.{◌≡◌, ◌||◌, map, take}
use Rattle.std.specs.List.{list_any}
use Rattle.indexmap.specs.IndexSet.{contains}
use Rattle.dali_account.specs.Net.{pair_of}
use Rattle.dali_account.specs.Units.{PairKey}
use Rattle.dali_queue.specs.Drafts.{same_pair}
use Rattle.dali_queue.proofs.draft.add_pairs.Given as goal

abbrev pub invariant-loop-item : goal.invariant-loop-item
invariant-loop-item l = record {
  so_far : (q : PairKey) → contains same_pair l.pairs q ≡ (contains same_pair l.initial.pairs q || list_any (same_pair q) (map pair_of (take l.item-index l.moves)));
}
