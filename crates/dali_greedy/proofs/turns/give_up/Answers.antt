use Rattle.std.proofs.Common.{◌<◌, ◌∙◌, ap, sym, subst, refl, pos, ◌-ℤ◌, List, length, get_or, arith}
use Rattle.dali_problem.specs.declared.row.Effect.{Effect}
use Rattle.dali_problem.specs.Sums.{sum_over}
use Rattle.dali_problem.specs.Clearing.{on_line, item_at}
use Rattle.dali_problem.specs.Limits.{AreEffects}
use Rattle.dali_problem.proofs.Lines.{item_limits}
use Rattle.dali_rest.proofs.Marks.{within_chosen}
use Rattle.dali_greedy.proofs.Standings.{has_room, left_stand}
use Rattle.dali_greedy.proofs.turns.give_up.Goals as goal

pub take_out-requires-clause-room : goal.take_out-requires-clause-room
take_out-requires-clause-room c =
    has_room c.args.problem.now (record { marks = c.args.marks.now; has = c.args.has.now }) c.effects.ensures.bounds c.requires.of

pub take_out-requires-clause-effects : goal.take_out-requires-clause-effects
take_out-requires-clause-effects c =
    let within : c.args.place < length c.args.problem.now.items = omega (arith, within_chosen c.args.marks.now c.args.place c.requires.chosen, c.requires.of.marks) in
    subst (λ (es : List Effect). AreEffects (length c.args.has.now) es) (sym c.effects.ensures.effects)
    (subst (λ n. AreEffects n (item_at c.args.problem.now c.args.place).effects) (sym c.requires.of.lines)
    (item_limits c.args.problem.now c.args.place c.effects.ensures.bounds within).effects)

pub returns-clause-of : goal.returns-clause-of
returns-clause-of c =
    left_stand c.args.problem.now (record { marks = c.args.marks.now; has = c.args.has.now }) _ c.args.place c.requires.of c.requires.chosen refl c.take_out.auto.has
    (λ l below. c.take_out.ensures l below ∙ ap (λ (es : List Effect). get_or c.args.has.now l (pos 0) -ℤ sum_over (on_line l) es) c.effects.ensures.effects)
