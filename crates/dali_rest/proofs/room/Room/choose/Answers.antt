use Rattle.std.proofs.Common.{◌∙◌, ap, set, List}
use Rattle.std.proofs.lemmas.List.{set-set}
use Rattle.dali_problem.specs.declared.mark.Mark.{Mark}
use Rattle.dali_problem.specs.declared.mark.Mark.TheVariants.{Undecided, Chosen}
use Rattle.dali_problem.specs.Kept.{Kept}
use Rattle.dali_rest.proofs.room.Room.choose.Goals as goal

pub returns-clause-marks : goal.returns-clause-marks
returns-clause-marks c =
    c.fix.ensures.marks
    ∙ ap (λ (k : Kept). set k.marks c.args.place Chosen) c.self.view_is
    ∙ ap (λ (f : List Mark). set f c.args.place Chosen) c.open.ensures.marks
    ∙ set-set c.args.self.now.marks c.args.place Undecided Chosen
