use Rattle.std.proofs.Common.{List, set, ap, sym, ◌∙◌}
use Rattle.std.proofs.lemmas.List.{set-get_or}
use Rattle.dali_problem.specs.declared.mark.Mark.{Mark}
use Rattle.dali_problem.specs.declared.mark.Mark.TheVariants.{Stranger}
use Rattle.dali_check.proofs.standing.give.Goals as goal

pub returns-then-is_aligned-clause-marks : goal.returns-then-is_aligned-clause-marks
returns-then-is_aligned-clause-marks c =
    let f : List Mark = c.args.kept.now.marks in
    sym (ap (λ (m : Mark). set f c.args.place m) (sym (c.is_aligned.ensures.0 c.if-is_aligned.true) ∙ c.mark.ensures)
    ∙ set-get_or f c.args.place Stranger)
