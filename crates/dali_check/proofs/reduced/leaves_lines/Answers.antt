use Rattle.std.proofs.Common.{pos, refl, ◌∙◌}
use Rattle.dali_problem.specs.declared.row.Effect.{Effect}
use Rattle.dali_problem.specs.Clearing.{item_at}
use Rattle.dali_problem.proofs.Lines.{item_limits}
use Rattle.dali_check.proofs.Reducing.{own_lines}
use Rattle.dali_check.proofs.reduced.leaves_lines.Goals as goal

pub returns : goal.returns
returns c =
    let p = c.args.problem.now in
    let d : Effect = record { line = 0; amount = pos 0 } in
    c.is_quiet.ensures
    ∙ own_lines p c.args.partial.now.marks c.args.place d (item_at p c.args.place).effects c.requires.of.marks c.requires.place c.requires.long
    (item_limits p c.args.place c.items-items.ensures.bounds c.requires.place).effects refl
