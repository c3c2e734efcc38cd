use Rattle.std.proofs.Common.{◌≡◌, ◌≢◌, drop}
use Rattle.std.specs.List.{All}
use Rattle.dali_problem.specs.declared.mark.Mark.TheVariants.{Stranger}
use Rattle.dali_problem.specs.Partial.{mark}
use Rattle.dali_problem.specs.Kept.{IsOf}
use Rattle.dali_tree.specs.declared.fix.Fix.{Fix}
use Rattle.dali_fixes.specs.Fixed.{place_of, undone}
use Rattle.dali_fixes.proofs.steps.undo.Given as goal

abbrev pub invariant-loop-fix : goal.invariant-loop-fix
invariant-loop-fix l = record {
  of : IsOf l.problem l.partial;
  rest : undone (drop l.fix-index l.fixes) l.partial.marks ≡ undone l.fixes l.initial.partial.marks;
  members : All (λ (fix : Fix). mark l.partial.marks (place_of fix) ≢ Stranger) l.fixes;
}
