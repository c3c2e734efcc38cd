use Rattle.std.proofs.Common.{◌≡◌, ℕ, false, ◌||◌, take, get_or}
use Rattle.dali_problem.specs.Feasible.{has}
use Rattle.dali_check.proofs.apart.mark_all.Given as goal

abbrev pub invariant-loop-number : goal.invariant-loop-number
invariant-loop-number l = record {
  marked : (j : ℕ) → get_or l.marks j false ≡ (get_or l.initial.marks j false || has (take l.number-index l.numbers) j);
}
