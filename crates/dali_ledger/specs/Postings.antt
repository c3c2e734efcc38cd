use Rattle.std.specs.Prelude.{◌≡◌, ℕ, ◌+◌, ◌&&◌, ℤ, pos, unsigned_abs, ◌+ℤ◌, ◌≤ℤ◌, Bool, List, [], ◌∷◌, ◌++◌, length, fold, take, drop, Some, All, false, IsTrue, slice_get, if◌then◌else◌}
use Rattle.dali_account.specs.declared.net.Move.{Move}
use Rattle.dali_base.specs.Readers.{same_bytes}
use Rattle.dali_account.specs.Net.{pair_of}
use Rattle.dali_base.specs.Limits.{most_total}
use Rattle.dali_account.specs.Units.{PairKey}
use Rattle.dali_ledger.specs.declared.posting.Posting.{Posting}

-- whether the posting changes the pair (account, asset)
abbrev pub is_of : Posting → PairKey → Bool
is_of p pair = same_bytes p.account pair.0 && same_bytes p.asset pair.1

abbrev pub delta_at : Posting → PairKey → ℤ
delta_at p pair = if is_of p pair then p.delta else pos 0

-- the sum of the pair's deltas
abbrev pub delta_sum : List Posting → PairKey → ℤ
delta_sum [] pair = pos 0
delta_sum (p ∷ ps) pair = delta_at p pair +ℤ delta_sum ps pair

-- the posting that comes next, of this command and move
abbrev pub next_posting : List Posting → ℕ → Move → Posting
next_posting ps command m = record {
  number = length ps + 1;
  command = command;
  account = m.account;
  asset = m.asset;
  delta = m.delta;
  after = unsigned_abs (delta_sum ps (pair_of m) +ℤ m.delta);
}

abbrev pub with_move : List Posting → ℕ → Move → List Posting
with_move ps command m = ps ++ next_posting ps command m ∷ []

-- the postings with one for each move of the net, in order
abbrev pub posted : List Posting → ℕ → List Move → List Posting
posted ps command net = fold (λ qs m. with_move qs command m) ps net

-- from 0 to 10^18
pub record IsSum (z : ℤ) : Type 0 where
  pub low : pos 0 ≤ℤ z
  pub high : z ≤ℤ pos most_total

-- numbered 1, 2 and so on, each with the sum of its pair's deltas up to it, and no sum ever outside its bounds
pub record IsLedger (ps : List Posting) : Type 0 where
  pub numbers : (k : ℕ) (p : Posting) → slice_get ps k ≡ Some p → p.number ≡ k + 1
  pub afters : (k : ℕ) (p : Posting) → slice_get ps k ≡ Some p → pos p.after ≡ delta_sum (take (k + 1) ps) (p.account, p.asset)
  pub sums : (n : ℕ) (pair : PairKey) → IsSum (delta_sum (take n ps) pair)

-- the posting at place k is the pair's last one
pub record IsLast (ps : List Posting) (pair : PairKey) (k : ℕ) (p : Posting) : Type 0 where
  pub there : slice_get ps k ≡ Some p
  pub own : IsTrue (is_of p pair)
  pub later : All (λ q. is_of q pair ≡ false) (drop (k + 1) ps)
