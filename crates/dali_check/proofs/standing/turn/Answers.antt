use Rattle.std.proofs.Common.{◌≡◌, inl, inr, List, set, ap, sym, ◌∙◌}
use Rattle.std.proofs.lemmas.List.{set-set}
use Rattle.dali_problem.specs.declared.mark.Mark.{Mark}
use Rattle.dali_problem.specs.declared.mark.Mark.TheVariants.{Undecided, Chosen, Left}
use Rattle.dali_check.specs.Room.{as_member}
use Rattle.dali_check.proofs.standing.turn.Goals as goal

pub returns-in-Chosen-clause-marks : goal.returns-in-Chosen-clause-marks
returns-in-Chosen-clause-marks c =
    c.fix.ensures.marks ∙ ap (λ (f : List Mark). set f c.args.place Chosen) c.release.ensures.marks
    ∙ set-set c.args.kept.now.marks c.args.place Undecided Chosen
    ∙ sym (ap (λ (m : Mark). set c.args.kept.now.marks c.args.place (as_member m)) c.in-Chosen.is)

pub returns-in-Left-clause-marks : goal.returns-in-Left-clause-marks
returns-in-Left-clause-marks c =
    let left : as_member c.args.to ≡ Left = elim c.in-Left.is as (λ _. as_member c.args.to ≡ Left) [
      | inl is ↦ ap as_member is
      | inr is ↦ ap as_member is
    ] in
    c.fix-in-Left.ensures.marks ∙ ap (λ (f : List Mark). set f c.args.place Left) c.release.ensures.marks
    ∙ set-set c.args.kept.now.marks c.args.place Undecided Left
    ∙ sym (ap (λ (m : Mark). set c.args.kept.now.marks c.args.place m) left)
