use Rattle.std.specs.Prelude.{◌≡◌, ◌≢◌, ℕ, ℤ, pos, unsigned_abs, ◌+ℤ◌, List, [], ◌∷◌, Option, Some, None, map, fold, All, IfSome, if◌then◌else◌}
use Rattle.std.specs.declared.cmp.Ordering.TheVariants.{Less}
use Rattle.std.specs.List.Sorted.{IsStrictlySortedBy}
use Rattle.dali_account.specs.declared.net.Move.{Move}
use Rattle.dali_base.specs.Readers.{same_bytes}
use Rattle.dali_account.specs.Units.{PairKey, Units, pair_cmp, units_of, with_units}

-- the pair that a move changes
abbrev pub pair_of : Move → PairKey
pair_of m = (m.account, m.asset)

-- moves in byte order of account, then of asset, each pair once and none of 0
pub record IsNet (net : List Move) : Type 0 where
  pub rising : IsStrictlySortedBy pair_cmp (map pair_of net)
  pub moves : All (λ (m : Move). m.delta ≢ pos 0) net

abbrev pub last_of : {X : Type 0} → List X → Option X
last_of [] = None
last_of (x ∷ []) = Some x
last_of (x ∷ y ∷ ys) = last_of (y ∷ ys)

-- the move stands after the last one
abbrev pub IsAfter : List Move → Move → Type 0
IsAfter net next = IfSome (last_of (map pair_of net)) (λ last. pair_cmp last (pair_of next) ≡ Less)

-- the units after a move, which leaves 0 at least
abbrev pub after_move : ℕ → ℤ → ℕ
after_move n delta = unsigned_abs (pos n +ℤ delta)

abbrev pub with_move : Units → Move → Units
with_move m move = with_units m (pair_of move) (after_move (units_of m (pair_of move)) move.delta)

-- the balances with all moves of a net
abbrev pub with_net : Units → List Move → Units
with_net m net = fold with_move m net

-- the sum of the deltas of an asset
abbrev pub asset_delta : List Move → List ℕ → ℤ
asset_delta [] asset = pos 0
asset_delta (m ∷ ms) asset = (if same_bytes asset m.asset then m.delta else pos 0) +ℤ asset_delta ms asset
