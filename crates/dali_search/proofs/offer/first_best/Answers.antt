use Rattle.std.proofs.Common.{[], List, ℕ, sym, subst}
use Rattle.dali_problem.specs.declared.mark.Mark.{Mark}
use Rattle.dali_problem.specs.Feasible.{IsFeasible}
use Rattle.dali_problem.specs.Partial.{Agrees}
use Rattle.dali_search.proofs.Starting.{none_places, none_feasible, start_agrees}
use Rattle.dali_search.proofs.offer.first_best.Goals as goal

pub unreachable-requires : goal.unreachable-requires
unreachable-requires c =
    let p = c.args.problem.now in
    let feasible = subst (λ (s : List ℕ). IsFeasible p s) (sym c.new.ensures) (none_feasible p) in
    let agrees = subst (λ (s : List ℕ). Agrees c.args.whole.now.marks s) (sym c.new.ensures)
    (subst (λ (f : List Mark). Agrees f []) (sym c.requires.undecided) (start_agrees p [] (none_places p))) in
    rw c.in-None.is at (c.in_ok-places.ensures.not_worse feasible agrees)
