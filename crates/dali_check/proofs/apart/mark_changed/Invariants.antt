use Rattle.std.proofs.Common.{◌≡◌, ℕ, ◌==◌, false, ◌||◌, take, get_or}
use Rattle.std.specs.List.{list_any}
use Rattle.dali_problem.specs.declared.row.Effect.{Effect}
use Rattle.dali_problem.specs.Clearing.{item_at}
use Rattle.dali_check.proofs.apart.mark_changed.Given as goal

abbrev pub invariant-loop-place : goal.invariant-loop-place
invariant-loop-place l = record {
  marked : (k : ℕ) → get_or l.marks k false
      ≡ (get_or l.initial.marks k false || list_any (λ (j : ℕ). list_any (λ (e : Effect). e.line == k) (item_at l.problem j).effects) (take l.place-index l.members));
}
