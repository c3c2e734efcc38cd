use Rattle.std.proofs.Common.{◌≡◌, ℕ, ◌<◌, true, false, get_or}
use Rattle.std.specs.List.{All, filter}
use Rattle.dali_problem.specs.declared.mark.Mark.TheVariants.{Left}
use Rattle.dali_problem.specs.Feasible.{value_of}
use Rattle.dali_problem.specs.Kept.{IsOf}
use Rattle.dali_tree.specs.declared.choice.Part.{Part}
use Rattle.dali_check.specs.Room.{IsReady}
use Rattle.dali_check.specs.Lean.{lean_part}
use Rattle.dali_check.proofs.allowing.first_not_lean_marked.Given as goal

abbrev pub invariant-loop-at : goal.invariant-loop-at
invariant-loop-at l = record {
  of : IsOf l.problem l.partial;
  idle : All (λ m. m ≡ Left) l.partial.marks;
  ready : IsReady l.problem l.kept;
  lean : (k : ℕ) (d : Part) → k < l.at →
      lean_part l.problem (get_or l.parts k d) (value_of l.problem (filter (λ (j : ℕ). get_or l.marks j false) (get_or l.parts k d).members)) ≡ true;
}
