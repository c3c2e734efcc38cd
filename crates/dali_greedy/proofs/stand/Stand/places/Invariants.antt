use Rattle.std.proofs.Common.{◌≡◌, ℕ, ◌<◌}
use Rattle.std.specs.List.{All, AllPairs, Contains}
use Rattle.dali_problem.specs.declared.mark.Mark.TheVariants.{Chosen}
use Rattle.dali_problem.specs.Partial.{mark}
use Rattle.dali_greedy.proofs.stand.Stand.places.Given as goal

abbrev pub invariant-loop-place : goal.invariant-loop-place
invariant-loop-place l = record {
  rising : AllPairs (λ i j. i < j) l.places;
  in_range : All (λ j. j < l.place) l.places;
  chosen : (j : ℕ) → Contains l.places j → mark l.self.marks j ≡ Chosen;
  all : (j : ℕ) → j < l.place → mark l.self.marks j ≡ Chosen → Contains l.places j;
}
