use Rattle.std.proofs.Common.{◌≡◌, pos, ◌+ℤ◌, false, get_or, sym, subst, ◌∙◌}
use Rattle.std.specs.List.{All}
use Rattle.std.proofs.lemmas.List.{take_all}
use Rattle.std.proofs.lemmas.List.Elements.{All-more}
use Rattle.dali_problem.specs.declared.row.Effect.{Effect}
use Rattle.dali_problem.specs.Rules.{is_negative}
use Rattle.dali_greedy.proofs.lines.first_tight.Goals as goal

pub loop-effect-preserved : goal.loop-effect-preserved
loop-effect-preserved c =
    All-more (λ (e : Effect). is_negative (get_or c.args.has.now e.line (pos 0) +ℤ e.amount) ≡ false) c.args.effects.now c.loop-effect.effect-index
    (record { line = 0; amount = pos 0 }) c.loop-effect-test.true c.loop-effect.invariant (sym c.is_tight.ensures ∙ c.if-is_tight.false)

pub returns-clause-none : goal.returns-clause-none
returns-clause-none c =
    subst (All (λ (e : Effect). is_negative (get_or c.args.has.now e.line (pos 0) +ℤ e.amount) ≡ false))
    (take_all c.loop-effect.effect-index c.args.effects.now c.loop-effect-test.false) c.loop-effect.invariant
