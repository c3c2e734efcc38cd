use Rattle.std.proofs.Common.{◌≢◌, List, ap, sym, subst}
use Rattle.std.specs.List.{All}
use Rattle.dali_problem.specs.declared.mark.Mark.{Mark}
use Rattle.dali_problem.specs.declared.mark.Mark.TheVariants.{Stranger}
use Rattle.dali_problem.specs.Kept.{Kept}
use Rattle.dali_problem.specs.Partial.{mark}
use Rattle.dali_tree.specs.declared.fix.Fix.{Fix}
use Rattle.dali_fixes.specs.Fixed.{place_of}
use Rattle.dali_search.specs.Nodes.{leaf_bound}
use Rattle.dali_search.proofs.Finishing.{below_after}
use Rattle.dali_search.proofs.Members.{fixed_members}
use Rattle.dali_search.proofs.leaf.leaf.Goals as goal

pub undo-requires-clause-members : goal.undo-requires-clause-members
undo-requires-clause-members c =
    let p = c.args.problem.now in
    let members = fixed_members p c.in_ok-fixes.fixes c.args.desk.now.partial.marks c.reduce.new.partial.marks c.in_ok-fixes.ensures.taken in
    subst (λ (xs : List Fix). All (λ (fix : Fix). mark c.finish.new.desk.partial.marks (place_of fix) ≢ Stranger) xs) (sym c.as_slice.ensures)
    (subst (λ (f : List Mark). All (λ (fix : Fix). mark f (place_of fix) ≢ Stranger) c.in_ok-fixes.fixes)
    (sym (ap (λ (k : Kept). k.marks) c.in_ok-end.ensures.partial)) members)

pub returns-clause-below : goal.returns-clause-below
returns-clause-below c =
    below_after c.args.problem.now c.in_ok-fixes.fixes c.args.desk.now.partial.marks c.reduce.new.partial.marks c.args.start.now (leaf_bound c.in_ok-end.end)
    c.in_ok-fixes.ensures.taken c.in_ok-end.ensures.below
