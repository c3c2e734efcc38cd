use Rattle.std.proofs.Common.{drop}
use Rattle.std.specs.BTreeMap.{get}
use Rattle.std.specs.Cmp.Lexicographic.{slice_cmp}
use Rattle.std.specs.Map.{keys_of}
use Rattle.std.specs.Ordering.{nat_cmp}
use Rattle.dali_account.specs.Units.{units_of}
use Rattle.dali_account.proofs.PairLemmas.{IsFoundBut}
use Rattle.dali_account.proofs.book.Book.held.Given as goal

abbrev pub invariant-loop-place : goal.invariant-loop-place
invariant-loop-place l = IsFoundBut (λ q. units_of l.self-inside.balances.units (l.account, q)) (drop l.place (keys_of l.self-inside.assets.listings)) (get (slice_cmp nat_cmp) l.held)
