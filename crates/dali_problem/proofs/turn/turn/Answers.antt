use Rattle.std.proofs.Common.{◌∙◌, ℕ, sym, ap, subst, refl, List, length}
use Rattle.dali_problem.specs.declared.row.Effect.{Effect}
use Rattle.dali_problem.specs.Clearing.{on_line}
use Rattle.dali_problem.specs.Sums.{sum_over}
use Rattle.dali_problem.specs.Limits.{AreEffects}
use Rattle.dali_problem.specs.Partial.{mark}
use Rattle.dali_problem.specs.Kept.{sum_at, moved}
use Rattle.dali_problem.proofs.Lines.{item_limits}
use Rattle.dali_problem.proofs.Turned.{sums_small, turned}
use Rattle.dali_problem.proofs.turn.turn.Goals as goal

pub shift-requires-clause-effects : goal.shift-requires-clause-effects
shift-requires-clause-effects c =
    subst (λ (n : ℕ). AreEffects n c.effects.result.now) (sym c.requires.of.lines)
    (subst (AreEffects (length c.args.problem.now.lines)) (sym c.effects.ensures.effects)
    (item_limits c.args.problem.now c.args.place c.effects.ensures.bounds c.requires.place).effects)

pub shift-requires-clause-small : goal.shift-requires-clause-small
shift-requires-clause-small c =
    sums_small c.args.problem.now (record { marks = c.args.marks.now; sums = c.args.sums.now }) c.effects.ensures.bounds c.requires.of

pub returns-clause-of : goal.returns-clause-of
returns-clause-of c =
    turned c.args.problem.now c.args.marks.now _ c.args.sums.now c.shift.new.sums c.args.place c.args.to c.requires.of c.requires.place refl c.shift.auto.sums
    (λ l below. c.shift.ensures l below
    ∙ ap (λ (es : List Effect). moved (sum_at c.args.sums.now l) (mark c.args.marks.now c.args.place) c.args.to (sum_over (on_line l) es)) c.effects.ensures.effects)

pub returns-clause-small : goal.returns-clause-small
returns-clause-small c =
    sums_small c.args.problem.now (record { marks = _; sums = c.shift.new.sums }) c.effects.ensures.bounds (returns-clause-of c)
