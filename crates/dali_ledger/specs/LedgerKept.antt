use Rattle.std.specs.Prelude.{◌≡◌, ℕ, ◌-◌, pos, List, map, min, unwrap_or, ◌&&◌, vec_len, vec_capacity}
use Rattle.std.specs.Map.{lookup}
use Rattle.indexmap.specs.IndexMap.{spare}
use Rattle.dali_base.specs.Readers.{same_bytes}
use Rattle.dali_account.specs.Units.{PairKey}
use Rattle.dali_ledger.specs.declared.posting.Posting.{Posting}
use Rattle.dali_ledger.specs.Postings.{IsLedger, delta_sum}
use Rattle.dali_ledger.specs.Places.{PlacesOf, room_of}
use Rattle.dali_ledger.specs.Ledger.{LedgerState}
use Rattle.dali_ledger.specs.declared.ledger.Ledger.TheInside.{Inside}

abbrev pub state_of : Inside → LedgerState
state_of a = record {
  postings = a.postings.items;
  spare = min (vec_capacity a.postings - vec_len a.postings) (min (spare a.sums) (room_of a.places));
}

-- the number beside the pair, 0 where there is none
abbrev pub sum_in : List (PairKey × ℕ) → PairKey → ℕ
sum_in sums pair = unwrap_or (lookup (λ q. same_bytes pair.0 q.0 && same_bytes pair.1 q.1) sums) 0

-- the account of each posting
abbrev pub accounts_of : List Posting → List (List ℕ)
accounts_of ps = map (λ p. p.account) ps

-- beside each pair stands the sum of its deltas, and kept are the places of the postings
pub record IsKept (a : Inside) : Type 0 where
  pub ledger : IsLedger a.postings.items
  pub sums : (pair : PairKey) → pos (sum_in a.sums.entries pair) ≡ delta_sum a.postings.items pair
  pub places : PlacesOf a.places (accounts_of a.postings.items)
