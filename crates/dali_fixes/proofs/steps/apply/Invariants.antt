use Rattle.std.proofs.Common.{◌≡◌, ◌≢◌, Some, take, drop}
use Rattle.std.specs.List.{All}
use Rattle.dali_problem.specs.declared.mark.Mark.TheVariants.{Stranger}
use Rattle.dali_problem.specs.Partial.{mark}
use Rattle.dali_problem.specs.Kept.{IsOf}
use Rattle.dali_tree.specs.declared.fix.Fix.{Fix}
use Rattle.dali_fixes.specs.Fixed.{place_of, after, undone}
use Rattle.dali_fixes.proofs.steps.apply.Given as goal

abbrev pub invariant-loop-taken : goal.invariant-loop-taken
invariant-loop-taken l = record {
  of : IsOf l.problem l.partial;
  rest : after l.problem (drop l.taken l.fixes) l.partial.marks ≡ after l.problem l.fixes l.initial.partial.marks;
  taken : after l.problem (take l.taken l.fixes) l.initial.partial.marks ≡ Some l.partial.marks;
  back : undone (take l.taken l.fixes) l.partial.marks ≡ l.initial.partial.marks;
  members : All (λ (fix : Fix). mark l.partial.marks (place_of fix) ≢ Stranger) (take l.taken l.fixes);
}
