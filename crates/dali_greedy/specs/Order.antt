use Rattle.std.specs.Prelude.{ℕ, ◌-◌, ◌^◌, ◌<◌, List, length}
use Rattle.std.specs.List.{All, Contains}
use Rattle.dali_problem.specs.Clearing.{Clearing, worth}
use Rattle.dali_greedy.specs.declared.order.Ranked.{Ranked}

-- place j in the order of values, the greatest first
abbrev pub rank_of : Clearing → ℕ → Ranked
rank_of p j = record { behind = 2 ^ 64 - 1 - worth p j; place = j }

-- each place stands in the order, and no other
pub record IsOrderOf (p : Clearing) (order : List Ranked) : Type 0 where
  pub in_range : All (λ r. r.place < length p.items) order
  pub all : (j : ℕ) → j < length p.items → Contains order (rank_of p j)
