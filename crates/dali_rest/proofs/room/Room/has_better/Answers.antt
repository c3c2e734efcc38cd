use Rattle.std.proofs.Common.{◌∙◌, set, ap, sym, subst, List, arith}
use Rattle.dali_problem.specs.declared.mark.Mark.{Mark}
use Rattle.dali_problem.specs.declared.mark.Mark.TheVariants.{Chosen, Left}
use Rattle.dali_rest.specs.Swaps.{IsCoveredBut}
use Rattle.dali_rest.proofs.Marks.{put_back, within_chosen}
use Rattle.dali_rest.proofs.Sides.{covered_but}
use Rattle.dali_rest.proofs.room.Room.has_better.Goals as goal

pub find_better-found-requires-clause-covered : goal.find_better-found-requires-clause-covered
find_better-found-requires-clause-covered c = subst (λ (f : List Mark). IsCoveredBut c.args.problem.now f c.args.given) (sym c.leave.ensures.marks)
    (covered_but c.args.problem.now c.args.self.now.marks c.args.given c.requires.room.of.marks (omega (arith, within_chosen c.args.self.now.marks c.args.given c.requires.chosen, c.requires.room.of.marks)) c.requires.decided c.requires.covered c.requires.chosen)

pub returns-clause-same : goal.returns-clause-same
returns-clause-same c = c.choose.ensures.marks ∙ ap (λ (f : List Mark). set f c.args.given Chosen) (c.find_better-found.ensures.same ∙ c.leave.ensures.marks)
    ∙ put_back c.args.self.now.marks c.args.given Left Chosen c.requires.chosen
