use Rattle.std.proofs.Common.{◌≡◌, ◌≢◌, ℕ, ◌<◌}
use Rattle.dali_problem.specs.declared.mark.Mark.TheVariants.{Undecided, Chosen}
use Rattle.dali_problem.specs.Partial.{mark}
use Rattle.dali_greedy.specs.Standing.{IsStandOf}
use Rattle.dali_greedy.proofs.stand.Stand.take_rest.Given as goal

abbrev pub invariant-loop-place : goal.invariant-loop-place
invariant-loop-place l = record {
  of : IsStandOf l.problem l.self;
  chosen : (j : ℕ) → j < l.place → mark l.room.marks j ≡ Undecided → mark l.self.marks j ≡ Chosen;
  others : (j : ℕ) → mark l.room.marks j ≢ Undecided → mark l.self.marks j ≡ mark l.fn.self.marks j;
}
