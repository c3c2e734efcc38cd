use Rattle.std.proofs.Common.{ℕ, ◌<◌, length}
use Rattle.std.specs.List.{All, Contains}
use Rattle.dali_greedy.specs.Order.{rank_of}
use Rattle.dali_greedy.proofs.order.by_value.Given as goal

abbrev pub invariant-loop-place : goal.invariant-loop-place
invariant-loop-place l = record {
  in_range : All (λ r. r.place < length l.problem.items) l.order.items;
  all : (j : ℕ) → j < l.place → Contains l.order.items (rank_of l.problem j);
}
