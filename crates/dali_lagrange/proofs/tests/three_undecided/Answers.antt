use Rattle.std.proofs.Common.{◌≡◌, ℕ, List, refl, sym, subst, arith}
use Rattle.std.specs.List.{Contains}
use Rattle.std.proofs.lemmas.Result.{IfOk-weaker}
use Rattle.dali_problem.specs.declared.mark.Mark.TheVariants.{Undecided}
use Rattle.dali_problem.specs.Partial.{mark}
use Rattle.dali_lagrange.specs.KeptSum.{KeptSum}
use Rattle.dali_lagrange.proofs.tests.three_undecided.Goals as goal

pub returns-clause-undecided : goal.returns-clause-undecided
returns-clause-undecided c = IfOk-weaker c.new.result _ (λ (kept : KeptSum). mark kept.marks 0 ≡ Undecided)
    (λ kept all. all.undecided 0 (subst (λ (xs : List ℕ). Contains xs 0) (sym c.in_ok-places.ensures) (0, omega arith, refl)))
    c.new.ensures.undecided
