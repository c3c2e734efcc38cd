use Rattle.std.proofs.Common.{◌≡◌, ℕ, ◌<◌, true}
use Rattle.dali_problem.specs.Partial.{mark, is_chosen}
use Rattle.dali_greedy.specs.Standing.{agrees_at}
use Rattle.dali_greedy.proofs.stand.Stand.agrees.Given as goal

abbrev pub invariant-loop-place : goal.invariant-loop-place
invariant-loop-place l = (k : ℕ) → k < l.place → agrees_at (mark l.partial.marks k) (is_chosen (mark l.self.marks k)) ≡ true
