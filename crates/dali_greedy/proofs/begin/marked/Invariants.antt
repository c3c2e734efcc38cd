use Rattle.std.proofs.Common.{◌≡◌, ℕ, ◌<◌}
use Rattle.std.specs.List.{All, AllPairs, Contains}
use Rattle.dali_problem.specs.Partial.{mark}
use Rattle.dali_greedy.proofs.begin.marked.Given as goal

abbrev pub invariant-loop-place : goal.invariant-loop-place
invariant-loop-place l = record {
  rising : AllPairs (λ i j. i < j) l.places;
  in_range : All (λ j. j < l.place) l.places;
  marked : (j : ℕ) → Contains l.places j → mark l.partial.marks j ≡ l.wanted;
  all : (j : ℕ) → j < l.place → mark l.partial.marks j ≡ l.wanted → Contains l.places j;
}
