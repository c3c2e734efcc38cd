use Rattle.std.proofs.Common.{◌≡◌, ◌≢◌, ℕ, ◌-◌, ◌<◌, Some, List, length}
use Rattle.dali_problem.specs.declared.mark.Mark.{Mark}
use Rattle.dali_problem.specs.declared.mark.Mark.TheVariants.{Stranger}
use Rattle.dali_problem.specs.Partial.{mark}
use Rattle.dali_problem.specs.Kept.{IsOf}
use Rattle.dali_fixes.specs.Fixed.{after}
use Rattle.dali_search.specs.Nodes.{node_at, total_at}
use Rattle.dali_search.specs.Arena.{IsArena}
use Rattle.dali_search.proofs.descend.descend.Given as goal

abbrev pub invariant-walk : goal.invariant-walk
invariant-walk l = record {
  of : IsOf l.problem l.partial;
  members : (j : ℕ) → j < length l.problem.items → mark l.partial.marks j ≢ Stranger;
  within : l.at < length l.nodes;
  greatest : (total_at l.totals l.at).greatest ≡ (total_at l.totals 0).greatest;
  leads : (u v : ℕ) (enter : ℕ → List Mark) → IsArena l.problem u v l.nodes enter → enter 0 ≡ l.fn.partial.marks →
      after l.problem (node_at l.nodes l.at).fixes (enter l.at) ≡ Some l.partial.marks;
}

abbrev pub decreases-walk : goal.decreases-walk
decreases-walk l = length l.nodes - l.at
