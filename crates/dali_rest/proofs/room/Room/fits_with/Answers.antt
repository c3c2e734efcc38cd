use Rattle.std.proofs.Common.{◌≡◌, ◌<◌, ◌∙◌, false, length, set, ap, sym, subst, List, arith}
use Rattle.std.specs.List.{All}
use Rattle.dali_problem.specs.declared.mark.Mark.{Mark}
use Rattle.dali_problem.specs.declared.mark.Mark.TheVariants.{Chosen, Left}
use Rattle.dali_problem.specs.Clearing.{item_at}
use Rattle.dali_problem.specs.Rules.{is_short}
use Rattle.dali_rest.proofs.Marks.{put_back, within_left}
use Rattle.dali_rest.proofs.Sides.{fits_is, covers_own}
use Rattle.dali_rest.proofs.room.Room.fits_with.Goals as goal

pub returns-clause-same : goal.returns-clause-same
returns-clause-same c = c.leave.ensures.marks ∙ ap (λ (f : List Mark). set f c.args.place Left) c.choose.ensures.marks ∙ put_back c.args.self.now.marks c.args.place Chosen Left c.requires.left

pub returns-clause-answer : goal.returns-clause-answer
returns-clause-answer c =
    let inside = within_left c.args.self.now.marks c.args.place c.requires.left in
    let within : c.args.place < length c.args.problem.now.items = omega (arith, inside, c.requires.room.of.marks) in (
      λ told. fits_is c.args.problem.now c.args.self.now.marks c.args.place c.requires.room.of.marks within c.requires.decided c.requires.covered c.requires.left
          (subst (λ (f : List Mark). All (λ e. is_short c.args.problem.now f e.line ≡ false) (item_at c.args.problem.now c.args.place).effects) c.choose.ensures.marks
          (c.covers-fits.ensures.answer.0 told)),
      λ covered. c.covers-fits.ensures.answer.1
          (subst (λ (f : List Mark). All (λ e. is_short c.args.problem.now f e.line ≡ false) (item_at c.args.problem.now c.args.place).effects) (sym c.choose.ensures.marks)
          (covers_own c.args.problem.now (set c.args.self.now.marks c.args.place Chosen) c.args.place c.covers-fits.ensures.bounds within covered)),
    )
