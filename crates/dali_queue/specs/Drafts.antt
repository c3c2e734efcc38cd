use Rattle.std.specs.Prelude.{◌≢◌, ℕ, ◌≤◌, ◌&&◌, Bool, List, map, length, sum_by}
use Rattle.std.specs.List.{All, AllPairs}
use Rattle.dali_base.specs.Limits.{most_items, most_worths}
use Rattle.dali_base.specs.Readers.{same_bytes}
use Rattle.dali_account.specs.Book.{BookRecord}
use Rattle.dali_account.specs.Units.{PairKey}
use Rattle.dali_problem.specs.Clearing.{Item, Clearing}
use Rattle.dali_problem.specs.Limits.{IsItem}
use Rattle.dali_queue.specs.declared.draft.Draft.{Draft}
use Rattle.dali_queue.specs.declared.instruction.Instruction.{Instruction}
use Rattle.dali_queue.specs.CycleProblem.{first_id, changed_by, effect_on, line_row}
use Rattle.dali_queue.specs.Instruction.{weight}
use Rattle.dali_queue.specs.NetOf.{net_of}

-- what follows serves the proofs of private functions: no public clause cites it

-- equality of pairs, name by name
abbrev pub same_pair : PairKey → PairKey → Bool
same_pair p q = same_bytes p.0 q.0 && same_bytes p.1 q.1

-- what these instructions together bring to a problem
abbrev pub draft_of : List Instruction → Draft
draft_of items = record { id = first_id items; value = sum_by weight items; net = net_of items }

-- the pairs that some of these change
abbrev pub drafted_pairs : List Draft → List PairKey
drafted_pairs drafts = changed_by (map (λ (d : Draft). d.net) drafts)

abbrev pub item_of_draft : List PairKey → Draft → Item
item_of_draft pairs d = record { id = d.id; value = d.value; effects = map (effect_on pairs) d.net }

-- the problem of these
abbrev pub drafted : BookRecord → List Draft → Clearing
drafted book drafts = record {
  lines = map (line_row book) (drafted_pairs drafts);
  items = map (item_of_draft (drafted_pairs drafts)) drafts;
}

-- items that fit a problem of n lines
pub record AreItems (n : ℕ) (items : List Item) : Type 0 where
  pub few : length items ≤ most_items
  pub ids : AllPairs (λ a b. a.id ≢ b.id) items
  pub each : All (IsItem n) items
  pub total : sum_by (λ item. item.value) items ≤ most_worths
