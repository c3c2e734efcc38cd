use Rattle.std.proofs.Common.{◌≡◌, map, take}
use Rattle.std.specs.Prelude.{flat_map}
use Rattle.std.specs.List.{list_any}
use Rattle.indexmap.specs.IndexSet.{contains}
use Rattle.dali_account.specs.Net.{pair_of}
use Rattle.dali_account.specs.Units.{PairKey}
use Rattle.dali_queue.specs.declared.draft.Draft.{Draft}
use Rattle.dali_queue.specs.Drafts.{same_pair}
use Rattle.dali_queue.proofs.draft.changed_pairs.Given as goal

abbrev pub invariant-loop-draft : goal.invariant-loop-draft
invariant-loop-draft l = record {
  so_far : (q : PairKey) → contains same_pair l.pairs q ≡ list_any (same_pair q) (flat_map (map pair_of) (map (λ (d : Draft). d.net) (take l.draft-index l.drafts)));
}
