use Rattle.std.specs.Prelude.{ℕ, ◌+◌, ◌&&◌, ◌==◌, Bool, List, [], ◌∷◌, map, flat_map, fold, sum_by, slice_get, unwrap_or, position, None, if◌then◌else◌}
use Rattle.std.specs.List.{list_any, filter}
use Rattle.std.specs.Option.{option_map_or}
use Rattle.dali_base.specs.NameList.{place_of, with_name}
use Rattle.dali_base.specs.Readers.{same_bytes}
use Rattle.dali_account.specs.declared.net.Move.{Move}
use Rattle.dali_account.specs.Book.{BookRecord, balance_of}
use Rattle.dali_account.specs.Net.{pair_of}
use Rattle.dali_account.specs.Units.{PairKey}
use Rattle.dali_problem.specs.declared.row.LineRow.{LineRow}
use Rattle.dali_problem.specs.declared.row.Effect.{Effect}
use Rattle.dali_problem.specs.Clearing.{Item, Clearing}
use Rattle.dali_queue.specs.declared.instruction.Instruction.{Instruction}
use Rattle.dali_queue.specs.declared.cycle.CycleInput.{CycleInput}
use Rattle.dali_queue.specs.Groups.{in_group, is_eligible}
use Rattle.dali_queue.specs.Instruction.{weight}
use Rattle.dali_queue.specs.NetOf.{net_of, in_order}
use Rattle.dali_queue.specs.Queue.{Queued, QueueRecord}

-- names each once, in order of first entry
abbrev pub each_once : List (List ℕ) → List (List ℕ)
each_once names = (fold with_name (record { names = []; readied = None }) names).names

-- whether an instruction's group is eligible at a moment
abbrev pub may_settle : QueueRecord → ℕ → Queued → Bool
may_settle q t w = is_eligible q t w.group

-- the groups that are eligible at a moment, in queue order of their first instructions
abbrev pub groups_at : QueueRecord → ℕ → List (List ℕ)
groups_at q t = each_once (map (λ w. w.group) (filter (may_settle q t) q.waiting))

-- the instructions of a group, in queue order
abbrev pub members_of : List Queued → List ℕ → List Instruction
members_of ws group = map (λ w. w.item) (filter (in_group group) ws)

-- the id of the first instruction
abbrev pub first_id : List Instruction → List ℕ
first_id items = option_map_or (λ i. i.id) (slice_get items 0) []

-- the pairs that some of these nets change, each once, in byte order of account, then of asset
abbrev pub changed_by : List (List Move) → List PairKey
changed_by nets = in_order (flat_map (map pair_of) nets)

-- the number of a pair's line
abbrev pub line_of : List PairKey → PairKey → ℕ
line_of pairs pair = unwrap_or (position (λ other. same_bytes pair.0 other.0 && same_bytes pair.1 other.1) pairs) 0

abbrev pub effect_on : List PairKey → Move → Effect
effect_on pairs move = record { line = line_of pairs (pair_of move); amount = move.delta }

-- the item of these instructions, which settle together or not at all: the id of the first, the sum of their values
-- times their ranks, and the sums of their effects
abbrev pub item_of_members : List PairKey → List Instruction → Item
item_of_members pairs items = record {
  id = first_id items;
  value = sum_by weight items;
  effects = map (effect_on pairs) (net_of items);
}

abbrev pub line_row : BookRecord → PairKey → LineRow
line_row book pair = record { account = pair.0; asset = pair.1; balance = balance_of book pair.0 pair.1 }

-- the members of each eligible group
abbrev pub memberships : QueueRecord → ℕ → List (List Instruction)
memberships q t = map (members_of q.waiting) (groups_at q t)

-- the problem of a cycle at a moment: its items are the eligible groups in queue order of their first instructions, its
-- lines the pairs that some item changes, with their balances
unfoldable pub problem_of : BookRecord → QueueRecord → ℕ → Clearing
problem_of book q t =
    let pairs = changed_by (map net_of (memberships q t)) in
    record { lines = map (line_row book) pairs; items = map (item_of_members pairs) (memberships q t) }

-- the places, counted from k, whose instructions pass a test
abbrev pub places_from : (Queued → Bool) → ℕ → List Queued → List ℕ
places_from test k [] = []
places_from test k (w ∷ ws) = if test w then k ∷ places_from test (k + 1) ws else places_from test (k + 1) ws

-- the problem, the queue places of all instructions in its items, and for each of them the number of its item
unfoldable pub input_of : BookRecord → QueueRecord → ℕ → CycleInput
input_of book q t = record {
  problem = problem_of book q t;
  at = places_from (may_settle q t) 0 q.waiting;
  item = map (λ w. unwrap_or (place_of (groups_at q t) w.group) 0) (filter (may_settle q t) q.waiting);
}

-- of queue places, those whose items, one for each, are in a set
abbrev pub chosen_of : List ℕ → List ℕ → List ℕ → List ℕ
chosen_of set [] items = []
chosen_of set (p ∷ ps) [] = []
chosen_of set (p ∷ ps) (j ∷ js) = if list_any (λ k. k == j) set then p ∷ chosen_of set ps js else chosen_of set ps js
