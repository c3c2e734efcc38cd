use Rattle.std.proofs.Common.{◌≡◌, ◌<◌, ◌∙◌, true, false, length, set, ap, sym, subst, List, arith}
use Rattle.std.specs.List.{All}
use Rattle.dali_problem.specs.declared.mark.Mark.{Mark}
use Rattle.dali_problem.specs.declared.mark.Mark.TheVariants.{Chosen, Left}
use Rattle.dali_problem.specs.Clearing.{item_at}
use Rattle.dali_problem.specs.Rules.{is_short}
use Rattle.dali_rest.proofs.Marks.{put_back, within_left}
use Rattle.dali_rest.proofs.Sides.{mends_is, covers_own}
use Rattle.dali_rest.proofs.room.Room.mends.Goals.{then-covers, else-covers}
use Rattle.dali_rest.proofs.room.Room.mends.Goals as goal

pub returns-clause-same : goal.returns-clause-same
returns-clause-same c = c.leave.ensures.marks ∙ ap (λ (f : List Mark). set f c.args.taken Left) c.choose.ensures.marks ∙ put_back c.args.self.now.marks c.args.taken Chosen Left c.requires.left

pub returns-clause-answer : goal.returns-clause-answer
returns-clause-answer c =
    let inside = within_left c.args.self.now.marks c.args.taken c.requires.left in
    let within : c.args.taken < length c.args.problem.now.items = omega (arith, inside, c.requires.room.of.marks) in
    elim c.if-covers.branch [
      | then-covers w ↦ (
        λ told. mends_is c.args.problem.now c.args.self.now.marks c.args.taken c.args.given c.requires.room.of.marks within c.requires.decided c.requires.covered c.requires.left
            (subst (λ (f : List Mark). All (λ e. is_short c.args.problem.now f e.line ≡ false) (item_at c.args.problem.now c.args.taken).effects) c.choose.ensures.marks
            (c.covers.ensures.answer.0 w.if-covers.true))
            (subst (λ (f : List Mark). All (λ e. is_short c.args.problem.now f e.line ≡ false) (item_at c.args.problem.now c.args.given).effects) c.choose.ensures.marks
            (w.covers-mended.ensures.answer.0 (sym w.mended-is ∙ told))),
        λ covered. w.mended-is ∙ w.covers-mended.ensures.answer.1
            (subst (λ (f : List Mark). All (λ e. is_short c.args.problem.now f e.line ≡ false) (item_at c.args.problem.now c.args.given).effects) (sym c.choose.ensures.marks)
            (covers_own c.args.problem.now (set c.args.self.now.marks c.args.taken Chosen) c.args.given c.covers.ensures.bounds c.requires.given covered)),
      )
      | else-covers w ↦ (
        λ told. absurd (let none : c.if-covers.mended ≡ false = w.mended-is ∙ w.if-covers.false in cc (told, none)),
        λ covered. absurd (
            let yes_ : c.covers.result ≡ true = c.covers.ensures.answer.1
            (subst (λ (f : List Mark). All (λ e. is_short c.args.problem.now f e.line ≡ false) (item_at c.args.problem.now c.args.taken).effects) (sym c.choose.ensures.marks)
            (covers_own c.args.problem.now (set c.args.self.now.marks c.args.taken Chosen) c.args.taken c.covers.ensures.bounds within covered)) in
            let no_ : c.covers.result ≡ false = w.if-covers.false in
            cc (yes_, no_)),
      )
    ]
