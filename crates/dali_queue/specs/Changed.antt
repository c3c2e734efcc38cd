use Rattle.std.specs.Prelude.{ℕ, ◌*◌, ℤ, pos, List, [], ◌∷◌, unwrap_or, if◌then◌else◌}
use Rattle.std.specs.Ordering.{int_eq}
use Rattle.std.specs.BTreeMap.{BTreeMap, get}
use Rattle.dali_base.specs.Limits.{most_quantity}
use Rattle.dali_account.specs.declared.net.Move.{Move}
use Rattle.dali_account.specs.Units.{PairKey, pair_cmp}
use Rattle.dali_problem.specs.Limits.{Within}
use Rattle.dali_queue.specs.Limits.{most_queued}

-- the change of a pair so far
abbrev pub change_of : BTreeMap PairKey ℤ → PairKey → ℤ
change_of m pair = unwrap_or (get pair_cmp m pair) (pos 0)

-- how great the changes of a full queue may be: each instruction may move its quantity and its cash
abbrev pub ROOM : ℕ
ROOM = most_queued * (2 * most_quantity)

-- less than half of what an i64 holds
abbrev pub HALF : ℕ
HALF = 4000000000000000000

-- no change is greater in size than n
abbrev pub AreWithin : ℕ → BTreeMap PairKey ℤ → Type 0
AreWithin n m = (pair : PairKey) → Within n (change_of m pair)

-- the move that makes a change
abbrev pub move_of : PairKey × ℤ → Move
move_of e = record { account = e.0.0; asset = e.0.1; delta = e.1 }

-- the moves of changes, without those of 0
abbrev pub moves_of : List (PairKey × ℤ) → List Move
moves_of [] = []
moves_of (e ∷ es) = if int_eq e.1 (pos 0) then moves_of es else move_of e ∷ moves_of es
