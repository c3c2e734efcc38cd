use Rattle.std.specs.Prelude.{◌≡◌, ℕ, ℤ, pos, List, [], ◌∷◌, map, flat_map, slice_get, if◌then◌else◌}
use Rattle.std.specs.FinMap as finite
use Rattle.std.specs.Option.{option_map_or}
use Rattle.std.specs.Ordering.{int_eq}
use Rattle.dali_account.specs.declared.net.Move.{Move}
use Rattle.dali_account.specs.Units.{PairKey, pair_cmp}
use Rattle.dali_account.specs.Net.{IsNet}
use Rattle.dali_problem.specs.Sums.{sum_over}
use Rattle.dali_queue.specs.declared.instruction.Instruction.{Instruction}
use Rattle.dali_queue.specs.Instruction.{at_pair, effect, changed_pairs}
use Rattle.dali_queue.specs.Queue.{Queued}

-- the effect on a pair of the instruction at a place
abbrev pub effect_at : List Queued → PairKey → ℕ → ℤ
effect_at ws pair place = option_map_or (λ w. effect w.item pair) (slice_get ws place) (pos 0)

-- all effects on a pair of the instructions at these places
abbrev pub effects_of : List Queued → List ℕ → PairKey → ℤ
effects_of ws places pair = sum_over (effect_at ws pair) places

-- the delta of a pair in a net, 0 where it has no move
abbrev pub delta_of : List Move → PairKey → ℤ
delta_of net pair = sum_over (λ m. at_pair m.account m.asset m.delta pair) net

-- the net of these changes: a move for each pair whose change isn't 0, in byte order of account, then of asset
pub record IsNetOf (change : PairKey → ℤ) (net : List Move) : Type 0 where
  pub ordered : IsNet net
  pub deltas : (pair : PairKey) → delta_of net pair ≡ change pair

-- the instructions at these places
abbrev pub items_at : List Queued → List ℕ → List Instruction
items_at ws [] = []
items_at ws (p ∷ ps) = option_map_or (λ w. w.item ∷ items_at ws ps) (slice_get ws p) (items_at ws ps)

-- the moves of these changes at these pairs, without those of 0
abbrev pub moves_at : (PairKey → ℤ) → List PairKey → List Move
moves_at change [] = []
moves_at change (pair ∷ pairs) =
    if int_eq (change pair) (pos 0)
    then moves_at change pairs
    else record { account = pair.0; asset = pair.1; delta = change pair } ∷ moves_at change pairs

-- these pairs, each once, in byte order of account, then of asset
abbrev pub in_order : List PairKey → List PairKey
in_order pairs = finite.keys (finite.from_entries {R = pair_cmp} (map (λ (pair : PairKey). (pair, tt {0})) pairs))

-- the pairs that these instructions may change
abbrev pub all_changed_pairs : List Instruction → List PairKey
all_changed_pairs items = in_order (flat_map changed_pairs items)

-- the net of these instructions: all their effects at once
unfoldable pub net_of : List Instruction → List Move
net_of items = moves_at (λ pair. sum_over (λ i. effect i pair) items) (all_changed_pairs items)
