use Rattle.std.proofs.Common.{◌≡◌, ℕ, List, length, ap, sym, ◌∙◌, subst}
use Rattle.dali_problem.specs.declared.mark.Mark.{Mark}
use Rattle.dali_problem.specs.declared.mark.Mark.TheVariants.{Undecided, Left}
use Rattle.dali_problem.specs.Partial.{mark}
use Rattle.dali_check.specs.Sides.{opened}
use Rattle.dali_check.specs.Room.{ScratchState, IsFor}
use Rattle.dali_check.proofs.Entering.{given, like_opened, left_again}
use Rattle.dali_check.proofs.AlikeTrees.{proves_like}
use Rattle.dali_check.proofs.Bounded.{agrees_given}
use Rattle.dali_check.proofs.proving.proves.Goals as goal

pub returns-clause-answer : goal.returns-clause-answer
returns-clause-answer c =
    let p = c.args.problem.now in
    let part = c.args.part.now in
    let start : List Mark = c.scratch.inside.partial.marks in
    let made = subst (λ (r : ScratchState). IsFor p r) (sym c.scratch.view_is) c.requires.made in
    let entered : (j : ℕ) → mark c.enter.new.partial.marks j ≡ given part.members Undecided start j =
    λ j. c.enter.ensures.marks j ∙ ap (λ (xs : List ℕ). given xs Undecided start j) c.as_slice-members.ensures in
    c.node-proved.ensures.answer
    ∙ sym (proves_like p part.bound part.tree (opened (length p.items) part.members) c.enter.new.partial.marks
    (like_opened (length p.items) part.members start c.enter.new.partial.marks
    made.of.marks c.enter.ensures.of.marks made.idle entered))

pub returns-clause-bound : goal.returns-clause-bound
returns-clause-bound c told t places feasible part =
    let p = c.args.problem.now in
    let start : List Mark = c.scratch.inside.partial.marks in
    let made = subst (λ (r : ScratchState). IsFor p r) (sym c.scratch.view_is) c.requires.made in
    let entered : (j : ℕ) → mark c.enter.new.partial.marks j ≡ given c.args.part.now.members Undecided start j =
    λ j. c.enter.ensures.marks j ∙ ap (λ (xs : List ℕ). given xs Undecided start j) c.as_slice-members.ensures in
    c.node-proved.ensures.bound told t places feasible
    (agrees_given c.args.part.now.members t start c.enter.new.partial.marks made.idle entered part)

pub returns-clause-made : goal.returns-clause-made
returns-clause-made c =
    let p = c.args.problem.now in
    let start : List Mark = c.scratch.inside.partial.marks in
    let made = subst (λ (r : ScratchState). IsFor p r) (sym c.scratch.view_is) c.requires.made in
    let back : (j : ℕ) → mark c.leave.new.partial.marks j ≡ given c.as_slice-members.result.now Left c.enter.new.partial.marks j =
    λ j. c.leave.ensures.marks j ∙ ap (λ (f : List Mark). given c.as_slice-members.result.now Left f j) c.node-proved.ensures.marks in
    record {
      of = c.leave.ensures.of;
      idle = left_again c.as_slice-members.result.now start c.enter.new.partial.marks c.leave.new.partial.marks
          (c.leave.ensures.of.marks ∙ sym made.of.marks) made.idle c.enter.ensures.marks back;
      kept = c.node-proved.ensures.ready;
      sums = made.sums;
      tests = made.tests;
      places = made.places;
      lines = made.lines;
    }
