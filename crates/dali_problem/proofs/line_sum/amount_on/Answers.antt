use Rattle.std.proofs.Common.{◌≡◌, pos, sym, ap, ◌∙◌, get_or, arith}
use Rattle.std.proofs.lemmas.Int.{ints}
use Rattle.dali_problem.specs.declared.row.Effect.{Effect}
use Rattle.dali_problem.specs.Sums.{sum_over}
use Rattle.dali_problem.specs.Clearing.{on_line}
use Rattle.dali_problem.proofs.Turned.{one_on_line}
use Rattle.dali_problem.proofs.RuleTests.{amount_step}
use Rattle.dali_problem.proofs.line_sum.amount_on.Goals as goal

pub returns-then-effect-line : goal.returns-then-effect-line
returns-then-effect-line c =
    let none : Effect = record { line = 0; amount = pos 0 } in
    let here : (get_or c.args.effects.now c.loop-effect.effect-index none).line ≡ c.args.line = c.if-effect-line.true in
    let is : sum_over (on_line c.args.line) c.args.effects.now ≡ (get_or c.args.effects.now c.loop-effect.effect-index none).amount =
    ap (λ l. sum_over (on_line l) c.args.effects.now) (sym here)
    ∙ one_on_line c.args.effects.now c.loop-effect.effect-index none c.requires.rising c.loop-effect-test.true in
    let small = c.requires.bounded c.loop-effect.effect-index none c.loop-effect-test.true in
    omega (arith, ints, is, small.low, small.high)

pub loop-effect-preserved : goal.loop-effect-preserved
loop-effect-preserved c =
    amount_step c.args.line c.loop-effect.effect-index (record { line = 0; amount = pos 0 }) c.args.effects.now c.loop-effect-test.true
    c.if-effect-line.false c.loop-effect.invariant
