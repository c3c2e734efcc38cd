use Rattle.std.proofs.Common.{◌∙◌, ap, arith}
use Rattle.std.specs.List.{list_all}
use Rattle.dali_problem.specs.Clearing.{item_at}
use Rattle.dali_problem.specs.Kept.{Kept}
use Rattle.dali_problem.proofs.Opened.{within_undecided}
use Rattle.dali_rest.proofs.Resting.{bears, bears_paid}
use Rattle.dali_rest.proofs.room.Room.is_paid.Goals as goal

pub returns : goal.returns
returns c =
    let inside = within_undecided c.args.self.now.marks c.args.place c.requires.undecided in
    bears_paid c.args.problem.now c.args.self.now.marks c.args.place c.bears.result c.items-items.ensures.bounds c.requires.room.of.marks
    (omega (arith, inside, c.requires.room.of.marks)) c.requires.undecided
    (c.bears.ensures ∙ ap (λ (k : Kept). list_all (bears c.args.problem.now k.marks c.args.place) (item_at c.args.problem.now c.args.place).effects) c.self.view_is)
