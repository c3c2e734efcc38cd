use Rattle.std.proofs.Common.{◌≡◌, ◌≢◌, ◌∙◌, Some, List, ap, sym, subst}
use Rattle.std.specs.List.{All}
use Rattle.dali_problem.specs.declared.mark.Mark.TheVariants.{Stranger}
use Rattle.dali_problem.specs.Partial.{mark}
use Rattle.dali_problem.proofs.KeptLaws.{same_kept}
use Rattle.dali_tree.specs.declared.fix.Fix.{Fix}
use Rattle.dali_fixes.specs.Fixed.{place_of, after, undone}
use Rattle.dali_fixes.proofs.Worths.{fixes_keep_worth}
use Rattle.dali_reduce.specs.Run.{GoesOn}
use Rattle.dali_reduce.proofs.Taken.{goes_leads, taken_back, taken_few, taken_counted, taken_more, taken_members}
use Rattle.dali_reduce.proofs.reducing.reduce_after.Goals as goal
use Rattle.dali_reduce.proofs.reducing.reduce_after.Goals.{After-settle_after}

leads : (c : After-settle_after) → after c.args.problem.now c.settle_after.new.fixes c.args.partial.now.marks ≡ Some c.settle_after.new.partial.marks
leads c = goes_leads c.args.problem.now c.args.partial.now.marks c.settle_after.new.partial.marks c.settle_after.new.fixes
    (subst (λ (xs : List Fix). GoesOn c.args.problem.now c.args.partial.now.marks c.settle_after.new.partial.marks xs c.settle_after.new.fixes) c.new-fixes.ensures c.settle_after.ensures.goes)

pub undo-requires-clause-members : goal.undo-requires-clause-members
undo-requires-clause-members c =
    subst (λ (xs : List Fix). All (λ (x : Fix). mark c.settle_after.new.partial.marks (place_of x) ≢ Stranger) xs) (sym c.as_slice.ensures)
    (taken_members c.args.problem.now c.settle_after.new.fixes c.args.partial.now.marks c.settle_after.new.partial.marks (leads (goal.at.undo-requires-clause-members c).After-settle_after))

pub returns-in-Ok-clause-back : goal.returns-in-Ok-clause-back
returns-in-Ok-clause-back c =
    taken_back c.args.problem.now c.settle_after.new.fixes c.args.partial.now.marks c.settle_after.new.partial.marks (leads (goal.at.returns-in-Ok-clause-back c).After-settle_after)

pub returns-in-Ok-clause-few : goal.returns-in-Ok-clause-few
returns-in-Ok-clause-few c =
    taken_few c.args.problem.now c.settle_after.new.fixes c.args.partial.now.marks c.settle_after.new.partial.marks c.items-items.ensures.bounds c.requires.of.marks
    (leads (goal.at.returns-in-Ok-clause-few c).After-settle_after)

pub returns-in-Ok-clause-counted : goal.returns-in-Ok-clause-counted
returns-in-Ok-clause-counted c =
    taken_counted c.args.problem.now c.settle_after.new.fixes c.args.partial.now.marks c.settle_after.new.partial.marks (leads (goal.at.returns-in-Ok-clause-counted c).After-settle_after)

pub returns-in-Ok-clause-more : goal.returns-in-Ok-clause-more
returns-in-Ok-clause-more c =
    taken_more c.args.problem.now c.settle_after.new.fixes c.args.partial.now.marks c.settle_after.new.partial.marks (leads (goal.at.returns-in-Ok-clause-more c).After-settle_after)

pub returns-in-Ok-clause-worth : goal.returns-in-Ok-clause-worth
returns-in-Ok-clause-worth c =
    fixes_keep_worth c.args.problem.now c.settle_after.new.fixes c.args.partial.now.marks c.settle_after.new.partial.marks c.items-items.ensures.bounds c.requires.of.marks
    (leads (goal.at.returns-in-Ok-clause-worth c).After-settle_after)

pub returns-in-Err-clause-err : goal.returns-in-Err-clause-err
returns-in-Err-clause-err c =
    same_kept c.args.problem.now c.undo.new.partial c.args.partial.now c.undo.ensures.of c.requires.of
    (c.undo.ensures.marks ∙ ap (λ (xs : List Fix). undone xs c.settle_after.new.partial.marks) c.as_slice.ensures
    ∙ taken_back c.args.problem.now c.settle_after.new.fixes c.args.partial.now.marks c.settle_after.new.partial.marks (leads (goal.at.returns-in-Err-clause-err c).After-settle_after))
